-- What the data of the site have for a key.
use Rattle.std.specs.Prelude.{ℕ, List, Option, Result, Ok, Err}
use Rattle.hiera_config.specs.Meant.{Meant}
use Rattle.hiera_config.specs.Variables.{in_scope}
use Rattle.hiera_lookup.specs.Look.{looked_up}
use Rattle.hiera_lookup.specs.World.{world_of}
use Rattle.hiera_merge.specs.declared.merge.Merge.{Merge}
use Rattle.pp_values.specs.Datum.{Datum}
use Rattle.pp_values.specs.Faults as faults
use Rattle.pp_values.specs.declared.fault.Fault.{Fault}
use Rattle.pp_values.specs.declared.place.Place.{Place}
use Rattle.eval_world.specs.Outcomes.{Step, answered}
use Rattle.eval_world.specs.declared.world.World.{World}

-- a fault stands at this place
abbrev pub placed : {A : Type 0} → Place → Meant A → Result A Fault
placed at (Ok a) = Ok a
placed at (Err details) = Err (faults.fault at details)

-- looked up with the variables of a scope, by this merge, or else by the one that the data give for the key
abbrev pub looked_up_in : ℕ → List ℕ → Option Merge → Place → World → Result (Option Datum) Fault
looked_up_in scope key merge at w =
    placed at (looked_up (world_of w.environment.site_data (in_scope scope w.scopes)) key merge)

unfoldable pub look_up : ℕ → List ℕ → Option Merge → Place → Step (Option Datum)
look_up scope key merge at = λ w. answered (looked_up_in scope key merge at w) w
