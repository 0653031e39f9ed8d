-- Which values count as true.
use Rattle.std.specs.Prelude.{Bool, true, false}
use Rattle.pp_values.specs.Datum.{Datum, undef, flag}

-- only `false` and Undef count as false
abbrev pub is_true : Datum → Bool
is_true undef = false
is_true (flag b) = b
is_true d = true
