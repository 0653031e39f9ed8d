-- Arrows, and where marks spread along them, at worked examples. That an arrow leads somewhere is shown by its place in
-- the list.
use Rattle.std.proofs.Common.{◌≡◌, ℕ, zero, suc, ◌||◌, Bool, true, false, List, [], ◌∷◌, inr, refl, subst, arith}
use Rattle.std.specs.Prelude.{nat_eq}
use Rattle.std.proofs.lemmas.Bool.{false≢true}
use Rattle.rel_graph.specs.Chains.{Paired}
use Rattle.rel_graph.specs.Marks.{Marked}
use Rattle.rel_graph.proofs.Chains.{belongs_carries}
use Rattle.agent_marks.specs.Nodes.{begin_of, end_of, AreArrows, targets, Closed}
use Rattle.agent_marks.specs.Spreads.{Marking, Leads, IsMarked}
use Rattle.agent_marks.proofs.ArrowLemmas.{no_arrows, contained, related, through}

three_begins_at : begin_of 3 ≡ 6
three_begins_at = refl

three_ends_at : end_of 3 ≡ 7
three_ends_at = refl

-- ---- Class[a] is 0, Notify[f] inside it is 1, and the class comes before Notify[g], which is 2

-- from the begin of a to that of f, from the end of f to that of a, and from there to the begin of g
abbrev outwards : List (ℕ × ℕ)
outwards = (0, 2) ∷ (3, 1) ∷ (1, 4) ∷ []

outwards_are : AreArrows 0 ((0, 1) ∷ []) ((0, 2) ∷ []) outwards
outwards_are = related ((0, 1) ∷ []) [] ((0, 2) ∷ (3, 1) ∷ []) (contained [] [] [] no_arrows 0 1) 0 2

from_the_end_of_f : targets outwards (end_of 1) ≡ end_of 0 ∷ []
from_the_end_of_f = refl

from_the_begin_of_f : targets outwards (begin_of 1) ≡ []
from_the_begin_of_f = refl

-- a mark on f, as its end: it spreads through the class to g, and to nothing else
abbrev marked_f : Marking
marked_f = record { count = 3; arrows = outwards; nodes = false ∷ true ∷ false ∷ true ∷ true ∷ false ∷ [] }

through_the_class : Leads marked_f 1 2
through_the_class = inr (1 ∷ [], ((1, omega arith, refl), (2, omega arith, refl)))

g_is_marked : IsMarked marked_f 2
g_is_marked = refl

the_class_is_not : ¬ (IsMarked marked_f 0)
the_class_is_not = λ h. false≢true h

nor_is_f : ¬ (IsMarked marked_f 1)
nor_is_f = λ h. false≢true h

-- and so all is marked that these marks lead to
none_is_left : Closed outwards marked_f.nodes
none_is_left u v (zero, h, e) = subst (λ p. Marked marked_f.nodes p.0 → Marked marked_f.nodes p.1) e (λ m. absurd (false≢true m))
none_is_left u v (suc zero, h, e) = subst (λ p. Marked marked_f.nodes p.0 → Marked marked_f.nodes p.1) e (λ m. refl)
none_is_left u v (suc (suc zero), h, e) = subst (λ p. Marked marked_f.nodes p.0 → Marked marked_f.nodes p.1) e (λ m. refl)
none_is_left u v (suc (suc (suc k)), h, e) = absurd (omega (arith, h))

-- ---- a chain: 0 before 1 before 2

abbrev direct : List (ℕ × ℕ)
direct = (1, 2) ∷ (3, 4) ∷ []

direct_are : AreArrows 0 [] ((0, 1) ∷ (1, 2) ∷ []) direct
direct_are = related [] ((0, 1) ∷ []) ((1, 2) ∷ []) (related [] [] [] no_arrows 0 1) 1 2

-- with one through each of the three, from its begin to its end
abbrev all : List (ℕ × ℕ)
all = (1, 2) ∷ (3, 4) ∷ (0, 1) ∷ (2, 3) ∷ (4, 5) ∷ []

all_are : AreArrows 3 [] ((0, 1) ∷ (1, 2) ∷ []) all
all_are =
    through 2 [] ((0, 1) ∷ (1, 2) ∷ []) ((1, 2) ∷ (3, 4) ∷ (0, 1) ∷ (2, 3) ∷ [])
    (through 1 [] ((0, 1) ∷ (1, 2) ∷ []) ((1, 2) ∷ (3, 4) ∷ (0, 1) ∷ [])
    (through 0 [] ((0, 1) ∷ (1, 2) ∷ []) direct direct_are))

abbrev by : List (ℕ × ℕ) → Marking
by arrows = record { count = 3; arrows = arrows; nodes = [] }

to_the_next : Leads (by direct) 0 1
to_the_next = inr ([], (0, omega arith, refl))

to_the_last : Leads (by all) 0 2
to_the_last = inr (2 ∷ 3 ∷ [], ((0, omega arith, refl), ((3, omega arith, refl), (1, omega arith, refl))))

-- what arrows lead to from the end of 0 is that end, or the begin of 1
abbrev is_led : ℕ → Bool
is_led v = nat_eq v (end_of 0) || nat_eq v (begin_of 1)

leads_on : (u v : ℕ) → Paired direct u v → is_led u ≡ true → is_led v ≡ true
leads_on u v (zero, h, e) = subst (λ p. is_led p.0 ≡ true → is_led p.1 ≡ true) e (λ m. refl)
leads_on u v (suc zero, h, e) = subst (λ p. is_led p.0 ≡ true → is_led p.1 ≡ true) e (λ m. absurd (false≢true m))
leads_on u v (suc (suc k), h, e) = absurd (omega (arith, h))

not_directly_to_the_last : ¬ (Leads (by direct) 0 2)
not_directly_to_the_last = λ b. false≢true (belongs_carries direct (λ v. is_led v ≡ true) leads_on (begin_of 2) (end_of 0) b refl)
