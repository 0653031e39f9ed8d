-- How much a text, a list or a hash holds.
use Rattle.std.specs.Prelude.{ℕ, ◌==◌, true, Result, Ok, Err, List, length}
use Rattle.std.specs.Fmt.{is_char_start}
use Rattle.std.specs.List.{count_by}
use Rattle.pp_values.specs.Datum.{Datum, undef, flag, text, list, hash, members_of, pairs_of}
use Rattle.pp_funcs.specs.declared.refusal.Refusal.{Refusal}
use Rattle.pp_funcs.specs.declared.refusal.Refusal.TheVariants.{Arguments}
use Rattle.pp_funcs.specs.Numbers.{natural}

-- the characters of a text: in UTF-8 the bytes of a character after its first are 128 to 191, and no first one is
abbrev pub characters : List ℕ → ℕ
characters t = count_by is_char_start t

-- the characters of a text, the members of a list, or the pairs of a hash
abbrev pub count : Datum → Result Datum Refusal
count (text t) = natural (characters t)
count (list ds) = natural (length (members_of ds))
count (hash es) = natural (length (pairs_of es))
count d = Err Arguments

-- a text, a list or a hash that holds nothing, and Undef
abbrev pub is_empty : Datum → Result Datum Refusal
is_empty undef = Ok (flag true)
is_empty (text t) = Ok (flag (length t == 0))
is_empty (list ds) = Ok (flag (length (members_of ds) == 0))
is_empty (hash es) = Ok (flag (length (pairs_of es) == 0))
is_empty d = Err Arguments
