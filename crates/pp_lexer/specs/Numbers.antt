-- Numbers.
use Rattle.std.specs.Prelude.{ℕ, pos, if◌then◌else◌, List, take, drop, Option, Some, None}
use Rattle.std.specs.List.{prefix_len}
use Rattle.pp_lexer.specs.Bytes.{is_word}
use Rattle.pp_lexer.specs.Digits.{number_value, is_fraction}
use Rattle.pp_lexer.specs.Fronts.{front, bad}
use Rattle.pp_lexer.specs.declared.front.Front.{Front}
use Rattle.pp_lexer.specs.declared.front.Found.TheVariants as found

-- All letters, digits and `_` that follow a digit belong to its number.
unfoldable pub number : List ℕ → Front
number z = let len = prefix_len is_word z in
    number_of z len (if is_fraction (drop len z) then None else number_value (take len z))
  where
    number_of : List ℕ → ℕ → Option ℕ → Front
    number_of z len None = bad z
    number_of z len (Some n) = front (found.Number (pos n)) len
