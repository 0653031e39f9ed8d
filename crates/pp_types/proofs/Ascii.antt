-- A text of ASCII alone has a character for each byte.
use Rattle.std.proofs.Common.{◌≡◌, ℕ, List, length, ap, sym}
use Rattle.std.proofs.lemmas.Str.{chars-IsAscii}
use Rattle.std.specs.Str.{IsAscii}
use Rattle.pp_types.specs.Lengths.{character_count}

pub ascii_count : (t : List ℕ) → IsAscii t → length t ≡ character_count t
ascii_count t ascii = ap length (sym (chars-IsAscii t ascii))
