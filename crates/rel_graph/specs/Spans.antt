-- Resources on a line of numbers, on which each begins and ends somewhere.
use Rattle.std.specs.Prelude.{ℕ, ◌+◌, ◌≤◌, List, slice_index_or}
use Rattle.std.specs.List.{All}

abbrev pub span : List (ℕ × ℕ) → ℕ → ℕ × ℕ
span spans x = slice_index_or spans x (0, 0)

-- what a resource contains begins at least the gap after it, and ends no later
abbrev pub LiesWithin : ℕ → List (ℕ × ℕ) → ℕ × ℕ → Type 0
LiesWithin gap spans p = ((span spans p.0).0 + gap ≤ (span spans p.1).0) × ((span spans p.1).1 ≤ (span spans p.0).1)

-- the later side of an edge begins at least the gap after the end of the earlier one
abbrev pub ComesLater : ℕ → List (ℕ × ℕ) → ℕ × ℕ → Type 0
ComesLater gap spans p = (span spans p.0).1 + gap ≤ (span spans p.1).0

-- Nothing ends before it begins, and the line keeps to containers and edges. With a gap of one there is no cycle; with
-- none, what comes before itself ends where it begins.
abbrev pub IsLine : ℕ → List (ℕ × ℕ) → List (ℕ × ℕ) → List (ℕ × ℕ) → Type 0
IsLine gap spans containers edges =
    All (λ s. s.0 ≤ s.1) spans × All (LiesWithin gap spans) containers × All (ComesLater gap spans) edges
