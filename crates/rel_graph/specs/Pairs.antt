-- What lists of pairs say.
use Rattle.std.specs.Prelude.{ℕ, ◌<◌, List}
use Rattle.std.specs.List.{All}

-- both indexes of each pair are below the count
abbrev pub AllBelow : List (ℕ × ℕ) → ℕ → Type 0
AllBelow pairs count = All (λ p. (p.0 < count) × (p.1 < count)) pairs

-- the pair the other way round
abbrev pub flip : ℕ × ℕ → ℕ × ℕ
flip p = (p.1, p.0)

-- all indexes are those of resources
abbrev pub AreBelow : ℕ → List (ℕ × ℕ) → List (ℕ × ℕ) → Type 0
AreBelow count containers edges = AllBelow containers count × AllBelow edges count
