-- What a text's form holds: its bytes, wherever they lie.
use Rattle.std.specs.Prelude.{ℕ, List, string_bytes}
use Rattle.pp_values.specs.declared.text.TextForm.{TextForm}
use Rattle.pp_values.specs.declared.text.TextForm.TheVariants as v

abbrev pub form_bytes : TextForm → List ℕ
form_bytes (v.Short short) = short
form_bytes (v.Long string) = string_bytes string
