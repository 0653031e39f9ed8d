-- What a `Form` says.
use Rattle.pp_values.specs.Datum.{Datum, text}
use Rattle.pp_values.specs.Views.{view}
use Rattle.agent_machine.specs.declared.form.Form.{Form}
use Rattle.agent_machine.specs.declared.form.Form.TheVariants as form

abbrev pub form_of : Form → Datum
form_of (form.Word word) = text word.now
form_of (form.Given value) = view value.now
