-- The cycle that is told where a relation leads from an index back to itself. `leads a b` says that a leads to b.
use Rattle.std.specs.Prelude.{ℕ, zero, suc, nat_eq, ◌&&◌, ◌||◌, Bool, if◌then◌else◌, List, [], ◌∷◌, Option, None, Some}
use Rattle.std.specs.Prelude.{option_map, is_some}
use Rattle.std.specs.List.{list_any}

abbrev pub is_pair : ℕ → ℕ → ℕ × ℕ → Bool
is_pair a b p = nat_eq a p.0 && nat_eq b p.1

-- some pair leads from a to b
abbrev pub is_paired : List (ℕ × ℕ) → ℕ → ℕ → Bool
is_paired pairs a b = list_any (is_pair a b) pairs

abbrev pub or_next : {A : Type 0} → Option A → Option A → Option A
or_next None next = next
or_next (Some x) next = Some x

-- what the least number below a bound gives that gives anything
unfoldable pub first_below : {A : Type 0} → (ℕ → Option A) → ℕ → Option A
first_below f zero = None
first_below f (suc n) = or_next (first_below f n) (f n)

-- the least way to a goal, as the indexes between, where there are so many of these: by way of the least index from
-- which there is one
unfoldable pub least_way : (ℕ → ℕ → Bool) → ℕ → ℕ → ℕ → ℕ → Option (List ℕ)
least_way leads count goal zero a = if leads a goal then Some [] else None
least_way leads count goal (suc n) a =
    first_below (λ c. if leads a c then option_map (λ way. c ∷ way) (least_way leads count goal n c) else None) count

-- the shortest way to a goal, and of these the least
unfoldable pub way_to : (ℕ → ℕ → Bool) → ℕ → ℕ → ℕ → Option (List ℕ)
way_to leads count goal a = first_below (λ n. least_way leads count goal n a) count

-- the way back to itself of the least index that has one; all indexes are below the count
unfoldable pub first_cycle : (ℕ → ℕ → Bool) → ℕ → Option (List ℕ)
first_cycle leads count = first_below (λ a. option_map (λ way. a ∷ way) (way_to leads count a a)) count

-- r is c, or stands inside it
abbrev pub does_belong : List (ℕ × ℕ) → ℕ → ℕ → ℕ → Bool
does_belong containers count r c = nat_eq c r || is_some (way_to (is_paired containers) count r c)

-- r comes directly before s: some edge leads from what r belongs to to what s belongs to
abbrev pub is_direct : List (ℕ × ℕ) → List (ℕ × ℕ) → ℕ → ℕ → ℕ → Bool
is_direct containers edges count r s =
    list_any (λ e. does_belong containers count r e.0 && does_belong containers count s e.1) edges

-- the cycle that stands in the way of an order: of containment, or else of what comes before what
abbrev pub cycle_in : List (ℕ × ℕ) → List (ℕ × ℕ) → ℕ → Option (List ℕ)
cycle_in containers edges count =
    or_next (first_cycle (is_paired containers) count) (first_cycle (is_direct containers edges count) count)
