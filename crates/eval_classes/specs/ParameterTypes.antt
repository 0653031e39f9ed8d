-- The type that a parameter has: what it is, and whether a value is of it.
use Rattle.std.specs.Prelude.{ℕ, Bool, true, false, List, Result, Ok, Err}
use Rattle.expr_eval.specs.Testing.{is_of}
use Rattle.pp_tree.specs.Building.{line_of}
use Rattle.pp_tree.specs.declared.expr.Expr.{Expr}
use Rattle.pp_values.specs.Datum.{Datum}
use Rattle.pp_values.specs.Faults as faults
use Rattle.pp_values.specs.declared.fault.Fault.{Fault}
use Rattle.pp_values.specs.declared.fault.What.TheVariants as what
use Rattle.pp_values.specs.declared.place.Place.{Place}
use Rattle.eval_world.specs.Inner.{Inner}
use Rattle.eval_world.specs.Outcomes.{Step, ◌>>=◌, answered}
use Rattle.eval_world.specs.Worlds.{place_at}
use Rattle.eval_world.specs.declared.here.Here.{Here}

-- A type stands in the scope of its parameter. Kinds that are named in it have to be there.
abbrev pub within_type : Here → Here
within_type own = record { scope = own.scope; owner = own.owner; typed = true }

-- The type is evaluated, one level further in, and then the value is tested: F11 `=~` at the type's line where it is
-- none.
unfoldable pub has_type : Inner → Expr → Datum → Here → Step Bool
has_type inner kind value own = do
  of_kind ← inner.value kind (within_type own)
  (λ w. answered (is_of value of_kind (place_at w own (line_of kind))) w)

-- F8 names the parameter
abbrev pub accepted : Bool → List ℕ → Place → Result (Unit {0}) Fault
accepted true name at = Ok tt
accepted false name at = Err (faults.fault at (what.TypeMismatch name))
