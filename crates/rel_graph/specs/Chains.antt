-- Relations between indexes, and chains of them.
use Rattle.std.specs.Prelude.{ℕ, List, [], ◌∷◌}
use Rattle.std.specs.List.{Contains}

-- a is paired with b
abbrev pub Paired : List (ℕ × ℕ) → ℕ → ℕ → Type 0
Paired pairs a b = Contains pairs (a, b)

-- R leads from a over the indexes between, in this order, to b
abbrev pub Chain : (ℕ → ℕ → Type 0) → ℕ → List ℕ → ℕ → Type 0
Chain R a [] b = R a b
Chain R a (c ∷ between) b = R a c × Chain R c between b

-- the transitive closure: some chain of R leads from a to b
abbrev pub Closure : (ℕ → ℕ → Type 0) → ℕ → ℕ → Type 0
Closure R a b = (between : List ℕ) × Chain R a between b
