-- Types as values.
use Rattle.std.specs.Prelude.{ℕ, Bool, true, false, List}
use Rattle.expr_eval.specs.TypeValues.{bare_type}
use Rattle.pp_types.specs.Names.{is_type_name}
use Rattle.pp_values.specs.Datum.{Datum}
use Rattle.pp_values.specs.declared.fault.What.TheVariants as what
use Rattle.eval_world.specs.Outcomes.{Step, pure}
use Rattle.eval_world.specs.Worlds.{fault}
use Rattle.eval_world.specs.declared.here.Here.{Here}

abbrev pub type_by : Bool → List ℕ → ℕ → Here → Step Datum
type_by true name line here = pure (bare_type name)
type_by false name line here = fault here line what.Syntax

-- `Integer`, `Ntp::Server`: the type without arguments. No text of the grammar has another name here.
unfoldable pub type_rule : List ℕ → ℕ → Here → Step Datum
type_rule name line here = type_by (is_type_name name) name line here
