-- Who comes directly before whom, at worked examples. Each fact is shown by the pair that makes it, which is found by
-- computing.
use Rattle.std.proofs.Common.{◌≡◌, ℕ, true, false, List, [], ◌∷◌, None, Some, inl, inr, refl, arith}
use Rattle.rel_graph.specs.Before.{Inside, Direct, Before}
use Rattle.rel_graph.specs.Cycles.{NoLater}
use Rattle.rel_graph.specs.FirstCycles.{is_paired, is_direct, first_below, least_way, way_to, first_cycle, cycle_in}

abbrev zero_one : List (ℕ × ℕ)
zero_one = (0, 1) ∷ []

-- a chain: 0 before 1 before 2, so 0 before 2
abbrev chain : List (ℕ × ℕ)
chain = (0, 1) ∷ (1, 2) ∷ []

first_of_chain : Direct [] chain 0 1
first_of_chain = record { earlier = 0; later = 1; edge = (0, omega arith, refl); source = inl refl; target = inl refl }

second_of_chain : Direct [] chain 1 2
second_of_chain = record { earlier = 1; later = 2; edge = (1, omega arith, refl); source = inl refl; target = inl refl }

ends_of_chain : Before [] chain 0 2
ends_of_chain = (1 ∷ [], (first_of_chain, second_of_chain))

-- `class a { notify { 'f': } } include a; Class['a'] -> Notify['f']`, with Class[a] as 0 and Notify[f] as 1: f stands
-- inside a, so f comes before f
inside_a : Inside zero_one 1 0
inside_a = ([], (0, omega arith, refl))

f_before_f : Before zero_one zero_one 1 1
f_before_f = (
  [],
  record {
    earlier = 0;
    later = 1;
    edge = (0, omega arith, refl);
    source = inr inside_a;
    target =
        inl refl;
  },
)

-- and so it does where the edge leads from f to the class
f_before_f_again : Before zero_one ((1, 0) ∷ []) 1 1
f_before_f_again = (
  [],
  record {
    earlier = 1;
    later = 0;
    edge = (0, omega arith, refl);
    source = inl refl;
    target =
        inr inside_a;
  },
)

-- members on either side, at any depth: 0 has 1, which has 2; 3 has 4; 0 before 3, so 2 before 4
abbrev nested : List (ℕ × ℕ)
nested = (0, 1) ∷ (1, 2) ∷ (3, 4) ∷ []

two_before_four : Direct nested ((0, 3) ∷ []) 2 4
two_before_four = record {
  earlier = 0;
  later = 3;
  edge = (0, omega arith, refl);
  source = inr (1 ∷ [], ((0, omega arith, refl), (1, omega arith, refl)));
  target = inr ([], (2, omega arith, refl));
}

-- a self edge
self : Before [] ((1, 1) ∷ []) 1 1
self = ([], record { earlier = 1; later = 1; edge = (0, omega arith, refl); source = inl refl; target = inl refl })

-- by the first index that differs
by_first : NoLater (1 ∷ 9 ∷ []) (2 ∷ 0 ∷ [])
by_first = inl (omega arith)

by_second : NoLater (1 ∷ 3 ∷ []) (1 ∷ 4 ∷ [])
by_second = inr (refl, inl (omega arith))

-- ---- the cycle that is told, as it is computed

no_cycle : first_cycle (is_paired ((0, 1) ∷ (0, 2) ∷ (1, 2) ∷ [])) 3 ≡ None
unfolding first_below least_way way_to first_cycle
no_cycle = refl

in_itself : first_cycle (is_paired ((0, 1) ∷ (1, 1) ∷ [])) 2 ≡ Some (1 ∷ [])
unfolding first_below least_way way_to first_cycle
in_itself = refl

-- the shortest from the least index
shortest : first_cycle (is_paired ((0, 1) ∷ (1, 2) ∷ (2, 0) ∷ (0, 2) ∷ [])) 3 ≡ Some (0 ∷ 2 ∷ [])
unfolding first_below least_way way_to first_cycle
shortest = refl

-- of two of one length the least
least : first_cycle (is_paired ((0, 2) ∷ (2, 0) ∷ (0, 1) ∷ (1, 0) ∷ [])) 3 ≡ Some (0 ∷ 1 ∷ [])
unfolding first_below least_way way_to first_cycle
least = refl

-- from the least index, also where another cycle is shorter
from_the_least : first_cycle (is_paired ((0, 1) ∷ (1, 0) ∷ (2, 2) ∷ [])) 3 ≡ Some (0 ∷ 1 ∷ [])
unfolding first_below least_way way_to first_cycle
from_the_least = refl

-- a relationship holds for all that its sides contain: 1 is in 0, so 1 comes before 2
within : is_direct ((0, 1) ∷ []) ((0, 2) ∷ []) 3 1 2 ≡ true
unfolding first_below least_way way_to
within = refl

not_within : is_direct ((0, 1) ∷ []) ((1, 2) ∷ []) 3 0 2 ≡ false
unfolding first_below least_way way_to
not_within = refl

-- of containment first, where there are both: 0 and 1 contain each other, and 2 comes before itself
contained_first : cycle_in ((0, 1) ∷ (1, 0) ∷ []) ((2, 2) ∷ []) 3 ≡ Some (0 ∷ 1 ∷ [])
unfolding first_below least_way way_to first_cycle
contained_first = refl

before_itself : cycle_in ((0, 1) ∷ []) ((2, 2) ∷ []) 3 ≡ Some (2 ∷ [])
unfolding first_below least_way way_to first_cycle
before_itself = refl
