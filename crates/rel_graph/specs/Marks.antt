-- A set of indexes, as a list that has `true` at each of them.
use Rattle.std.specs.Prelude.{◌≡◌, ℕ, Bool, true, false, List, slice_index_or}

abbrev pub Marked : List Bool → ℕ → Type 0
Marked marks x = slice_index_or marks x false ≡ true
