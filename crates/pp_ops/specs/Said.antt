-- The answer of a call of the language, as what its value says.
use Rattle.std.specs.Prelude.{Result, Ok, Err}
use Rattle.pp_values.specs.declared.fault.Stop.{Stop}
use Rattle.pp_values.specs.declared.value.Value.{Value}
use Rattle.pp_values.specs.Datum.{Datum}
use Rattle.pp_values.specs.Views.{view}

abbrev pub said : Result Value Stop → Result Datum Stop
said (Ok v) = Ok (view v)
said (Err s) = Err s
