-- The parameters of a class or of an instance.
use Rattle.std.specs.Prelude.{ℕ, Bool, true, false, if◌then◌else◌, List, [], ◌∷◌, ◌++◌, Option, None, Some, Err, codes}
use Rattle.std.specs.BTreeMap.{insert_entry}
use Rattle.std.specs.Str.{bytes_eq}
use Rattle.pp_tree.specs.declared.expr.Expr.{Expr}
use Rattle.pp_tree.specs.declared.param.Param.{Param}
use Rattle.pp_values.specs.Datum.{Datum}
use Rattle.pp_values.specs.Faults as faults
use Rattle.pp_values.specs.Rising.{text_cmp}
use Rattle.pp_values.specs.Settings.{Setting}
use Rattle.pp_values.specs.declared.fault.What.TheVariants as what
use Rattle.pp_values.specs.declared.place.Place.{Place}
use Rattle.pp_values.specs.declared.reference.Reference.{Reference}
use Rattle.eval_world.specs.Data.{look_up}
use Rattle.eval_world.specs.Inner.{Inner}
use Rattle.eval_world.specs.Outcomes.{Step, ◌>>=◌, ◌>>◌, pure, answered}
use Rattle.eval_world.specs.Worlds.{assign}
use Rattle.eval_world.specs.declared.here.Here.{Here}
use Rattle.eval_classes.specs.Attributes.{is_value}
use Rattle.eval_classes.specs.ParameterTypes.{has_type, accepted}

-- what was given for each name
abbrev pub Given : Type 0
Given = List ℕ → Option Datum

-- ---- the site's data

abbrev pub is_class : Reference → Bool
is_class of = bytes_eq of.kind (codes "class")

-- the key of the parameter `x` of the class `c` is `c::x`, also where the class is declared as a parent
abbrev pub data_key : Reference → List ℕ → List ℕ
data_key of x = of.title ++ codes "::" ++ x

abbrev pub data_by : Bool → Reference → List ℕ → Place → Step (Option Datum)
data_by false of x at = pure None
data_by true of x at = look_up 0 (data_key of x) None at

-- A class's parameter is looked up with the variables of top scope, by the merge that the data give for its key.
-- Nothing is looked up for an instance. A fault stands where the class was declared first.
abbrev pub data_rule : Reference → List ℕ → Place → Step (Option Datum)
data_rule of x at = data_by (is_class of) of x at

-- ---- the default

-- a class or an instance was declared, at this place, with no value for a parameter
abbrev pub missing : {A : Type 0} → Reference → List ℕ → Place → Step A
missing of x at = λ w. Err (faults.fault at (what.MissingParameter of x))

-- the default, which is evaluated in the new scope, one level further in; else F9 where it was declared
abbrev pub default_rule : Inner → Option Expr → Reference → List ℕ → Place → Here → Step Datum
default_rule inner None of x at own = missing of x at
default_rule inner (Some e) of x at own = inner.value e own

-- ---- what stands for a parameter

-- Undef counts as no value
abbrev pub counted : Option Datum → Option Datum
counted None = None
counted (Some v) = if is_value v then Some v else None

abbrev pub or_else : Option Datum → Step Datum → Step Datum
or_else None next = next
or_else (Some v) next = pure v

-- what the site's data have, else the default
unfoldable pub data_or_default : Inner → Param Expr → Reference → Place → Here → Step Datum
data_or_default inner p of at own = do
  found ← data_rule of p.name at
  or_else (counted found) (default_rule inner p.default of p.name at own)

-- what is given, else what stands behind it
unfoldable pub value_rule : Inner → Given → Param Expr → Reference → Place → Here → Step Datum
value_rule inner given p of at own = or_else (counted (given p.name)) (data_or_default inner p of at own)

-- ---- in order

-- where the parameter has a type, its value is of it, else F8 where the class or instance was declared
abbrev pub typed : Inner → Option Expr → Datum → List ℕ → Place → Here → Step (Unit {0})
typed inner None v x at own = pure tt
typed inner (Some kind) v x at own = do
  fits ← has_type inner kind v own
  answered (accepted fits x at)

-- The value is found first, then comes its type, then the name is set: F3 at the line of the variable.
unfoldable pub bind_rule : Inner → Given → List Setting → Param Expr → Reference → Place → Here → Step (List Setting)
bind_rule inner given done p of at own = do
  v ← value_rule inner given p of at own
  typed inner p.kind v p.name at own
  assign own p.name v p.at
  pure (insert_entry text_cmp done p.name v)

-- the parameters in order, and their values by the order of their names
unfoldable pub bind_from : Inner → Given → List Setting → List (Param Expr) → Reference → Place → Here →
    Step (List Setting)
bind_from inner given done [] of at own = pure done
bind_from inner given done (p ∷ ps) of at own = do
  more ← bind_rule inner given done p of at own
  bind_from inner given more ps of at own
