-- A hash that is put together pair by pair, as the code holds it.
use Rattle.std.specs.Prelude.{List}
use Rattle.pp_values.specs.Datum.{Pair}
use Rattle.eval_forms.specs.declared.growing.GrowingForm.{GrowingForm}
use Rattle.eval_forms.specs.declared.growing.GrowingForm.TheVariants as form

-- those of a hash, with or without maps
abbrev pub form_pairs : GrowingForm → List Pair
form_pairs (form.Few pairs) = pairs
form_pairs (form.Many pairs) = pairs
