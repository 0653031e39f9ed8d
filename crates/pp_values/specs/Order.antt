-- The order of two integers, or of two texts with their ASCII letters folded. Other values have none.
use Rattle.std.specs.Prelude.{Option, None, Some}
use Rattle.std.specs.declared.cmp.Ordering.{Ordering}
use Rattle.std.specs.Ordering.{int_cmp, nat_cmp}
use Rattle.std.specs.Cmp.Lexicographic.{slice_cmp}
use Rattle.std.specs.Str.{str_to_ascii_lowercase}
use Rattle.pp_values.specs.Datum.{Datum, int, text}

abbrev pub order : Datum → Datum → Option Ordering
order (int a) (int b) = Some (int_cmp a b)
order (text a) (text b) = Some (slice_cmp nat_cmp (str_to_ascii_lowercase a) (str_to_ascii_lowercase b))
order a b = None
