-- Marks as relations say that they spread.
use Rattle.std.proofs.Common.{◌≡◌, ◌⊎◌, ◌↔◌, ℕ, ◌≤◌, Bool, not, List, [], length, count_by, sym, subst, ◌∙◌}
use Rattle.std.specs.declared.alloc.Global.{Global}
use Rattle.std.specs.declared.vec.Vec.{Vec}
use Rattle.rel_graph.specs.Marks.{Marked}
use Rattle.rel_graph.specs.Before.{Belongs, Before, Direct}
use Rattle.rel_graph.specs.Pairs.{AllBelow}
use Rattle.agent_marks.specs.Nodes.{begin_of, end_of, AreArrows, Closed}
use Rattle.agent_marks.specs.Spreads.{Marking, IsEmpty, IsMarked, IsMarking, IsNew, Leads}
use Rattle.agent_marks.proofs.NodePaths.{led_before, before_led, led_direct, direct_led}

pub new_after : (count : ℕ) (C E arrows : List (ℕ × ℕ)) (m : Marking) → AreArrows count C E arrows → AllBelow C count →
    AllBelow E count → IsEmpty count arrows m → IsNew count (Before C E) m
new_after count C E arrows m a below edges_below e = record {
  size = e.size;
  leads = λ x y. (
    λ b. led_before count C E arrows a x y (subst (λ l. Belongs l (begin_of y) (end_of x)) e.leads_by b),
    λ b. subst (λ l. Belongs l (begin_of y) (end_of x)) (sym e.leads_by) (before_led count C E arrows a below edges_below x y b),
  );
  none = λ x. e.none (begin_of x);
}

pub new_directly : (count : ℕ) (C E arrows : List (ℕ × ℕ)) (m : Marking) → AreArrows 0 C E arrows → IsEmpty count arrows m →
    IsNew count (Direct C E) m
new_directly count C E arrows m a e = record {
  size = e.size;
  leads = λ x y. (
    λ b. led_direct C E arrows a x y (subst (λ l. Belongs l (begin_of y) (end_of x)) e.leads_by b),
    λ b. subst (λ l. Belongs l (begin_of y) (end_of x)) (sym e.leads_by) (direct_led 0 C E arrows a x y b),
  );
  none = λ x. e.none (begin_of x);
}

-- ---- a mark more

pub marking_more : (count : ℕ) (arrows : List (ℕ × ℕ)) (table : List (Vec ℕ Global)) (nodes : List Bool) (stack : List ℕ)
    (room : ℕ) (given : List (ℕ × ℕ)) (after : List Bool) (left : List ℕ) (space : ℕ) →
    IsMarking count arrows table nodes stack room → given ≡ arrows → Closed given after → length after ≡ length nodes →
    left ≡ [] → count_by not after ≤ space → IsMarking count arrows table after left space
marking_more count arrows table nodes stack room given after left space m same closed long empty wide = record {
  below = m.below;
  wide = m.wide;
  lists = m.lists;
  long = long ∙ m.long;
  closed = subst (λ l. Closed l after) same closed;
  empty = empty;
  space = wide;
}

pub marked_more : (m seen : Marking) (nodes : List Bool) (given : List (ℕ × ℕ)) (e at x : ℕ) → m ≡ seen → given ≡ m.arrows →
    e ≡ end_of at → (Marked nodes (begin_of x) ↔ (Marked m.nodes (begin_of x) ⊎ Belongs given (begin_of x) e)) →
    (Marked nodes (begin_of x) ↔ (IsMarked seen x ⊎ Leads seen at x))
marked_more m seen nodes given e at x is same ended r =
    subst (λ s. Marked nodes (begin_of x) ↔ (IsMarked s x ⊎ Leads s at x)) is
    (subst (λ l. Marked nodes (begin_of x) ↔ (Marked m.nodes (begin_of x) ⊎ Belongs l (begin_of x) (end_of at))) same
    (subst (λ k. Marked nodes (begin_of x) ↔ (Marked m.nodes (begin_of x) ⊎ Belongs given (begin_of x) k)) ended r))
