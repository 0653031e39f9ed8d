-- What the call of a look-up answers.
use Rattle.std.specs.Prelude.{◌≡◌, ⊤, Option, option_map, Result, Ok, Err}
use Rattle.pp_values.specs.declared.fault.Stop.{Stop}
use Rattle.pp_values.specs.declared.fault.Stop.TheVariants as stop
use Rattle.pp_values.specs.declared.place.Place.{Place}
use Rattle.pp_values.specs.declared.value.Value.{Value}
use Rattle.pp_values.specs.Datum.{Datum}
use Rattle.pp_values.specs.Views.{view}
use Rattle.hiera_config.specs.Meant.{Meant}
use Rattle.hiera_config.specs.declared.refused.Refused.{Refused}
use Rattle.hiera_config.specs.declared.refused.Refused.TheVariants as refused

-- exactly what is meant, with its fault at this place, unless memory ran out
abbrev pub Finds : Place → Result (Option Value) Stop → Meant (Option Datum) → Type 0
Finds at (Ok o) meant = meant ≡ Ok (option_map view o)
Finds at (Err (stop.Fault f)) meant = (f.at ≡ at) × (meant ≡ Err f.what)
Finds at (Err stop.Memory) meant = ⊤

-- a refusal with its place
abbrev pub Stops : Place → Refused → Stop → Type 0
Stops at (refused.Fault w) (stop.Fault f) = (f.at ≡ at) × (w ≡ f.what)
Stops at refused.Memory (stop.Fault f) = ⊥
Stops at r stop.Memory = ⊤
