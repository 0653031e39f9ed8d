-- Lengths of texts, in characters.
use Rattle.std.specs.Prelude.{ℕ, Bool, List, length, pos}
use Rattle.std.specs.Str.{chars}
use Rattle.pp_types.specs.declared.range.Range.{Range}
use Rattle.pp_types.specs.Ranges.{is_in_range}

abbrev pub character_count : List ℕ → ℕ
character_count t = length (chars t)

abbrev pub has_length : Range → List ℕ → Bool
has_length r t = is_in_range r (pos (character_count t))
