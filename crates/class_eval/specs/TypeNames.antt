-- What the name of a type gives, by where it stands.
use Rattle.std.specs.Prelude.{ℕ, Bool, true, false, List, Option, None, Some, Result, Ok}
use Rattle.pp_tree.specs.Names.{normal}
use Rattle.pp_types.specs.Names.{bare_name, data_type_named}
use Rattle.pp_types.specs.declared.data_type.DataType.{DataType}
use Rattle.pp_values.specs.Answers.{and_then}
use Rattle.pp_values.specs.Datum.{Datum}
use Rattle.pp_values.specs.declared.fault.Fault.{Fault}
use Rattle.pp_values.specs.declared.place.Place.{Place}
use Rattle.eval_forms.specs.Types.{type_rule}
use Rattle.eval_resources.specs.Checks.{kind_checked}
use Rattle.eval_world.specs.Environment.{Environment}
use Rattle.eval_world.specs.Outcomes.{Step, ◌>>=◌, ◌>>◌, pure, answered}
use Rattle.eval_world.specs.Worlds.{place_at}
use Rattle.eval_world.specs.declared.here.Here.{Here}

-- F5 at a kind that is neither native nor a define of the site. A module file that is asked for it and has a fault
-- gives that.
abbrev pub kind_there : Environment → List ℕ → Place → Result (Unit {0}) Fault
kind_there m name at = and_then (kind_checked m (normal name) at) (λ _. Ok tt)

-- a name that is no data type's is that of a kind
abbrev pub there_by : Option DataType → List ℕ → ℕ → Here → Step (Unit {0})
there_by (Some t) name line here = pure tt
there_by None name line here = λ w. answered (kind_there w.environment name (place_at w here line)) w

abbrev pub named_by : Bool → List ℕ → ℕ → Here → Step Datum
named_by false name line here = type_rule name line here
named_by true name line here = do
  there_by (data_type_named (bare_name name)) name line here
  type_rule name line here

-- `Integer`, `Ntp::Server`: within the type of a parameter kinds have to be there, elsewhere any will do.
unfoldable pub type_named_rule : List ℕ → ℕ → Here → Step Datum
type_named_rule name line here = named_by here.typed name line here
