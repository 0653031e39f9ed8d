-- Expressions that have no parts.
use Rattle.std.specs.Prelude.{ℕ, ℤ, suc, Option, Some, None, ◌≡◌}
use Rattle.pp_tree.specs.Building.{form_of, line_of}
use Rattle.pp_tree.specs.Layers.{FormLayer}
use Rattle.pp_tree.specs.declared.collector.Test.TheOpen.{Form-F}
use Rattle.pp_tree.specs.declared.expr.Expr.{Expr}
use Rattle.pp_tree.specs.declared.expr.Form.{out-Form}
use Rattle.pp_values.specs.Datum as d
use Rattle.pp_values.specs.Datum.{Datum}
use Rattle.scope_core.specs.Scopes as scopes
use Rattle.scope_core.specs.Scopes.{Scopes}
use Rattle.eval_world.specs.Inner.{Inner}
use Rattle.eval_world.specs.Outcomes.{Step, pure}
use Rattle.eval_world.specs.Worlds.{read}
use Rattle.eval_world.specs.declared.here.Here.{Here}

-- what an integer, a text, a name and a variable say, by themselves
abbrev pub leaf_by : FormLayer → ℕ → Here → Option (Step Datum)
leaf_by (Form-F.Number z) line here = Some (pure (d.int z))
leaf_by (Form-F.Text t) line here = Some (pure (d.text t))
leaf_by (Form-F.Name t) line here = Some (pure (d.text t))
leaf_by (Form-F.Variable x) line here = Some (read here x line)
leaf_by _ line here = None

-- each of these means what it says
abbrev pub Leaves : Inner → Type 0
Leaves inner = (e : Expr) (here : Here) (said : Step Datum)
    → leaf_by (out-Form (form_of e)) (line_of e) here ≡ Some said → inner.value e here ≡ said

-- ---- what is there without evaluating, where a level is left

abbrev pub known_by : FormLayer → ℕ → Here → Scopes → Option Datum
known_by (Form-F.Variable x) (suc left) here s = scopes.found here.scope.number x s
known_by _ left here s = None

-- the value of an expression that is a variable, where that has one
unfoldable pub known_in : ℕ → Expr → Here → Scopes → Option Datum
known_in left e here s = known_by (out-Form (form_of e)) left here s

abbrev pub number_by : FormLayer → ℕ → Option ℤ
number_by (Form-F.Number z) (suc left) = Some z
number_by _ left = None

-- the integer that an expression is by itself
unfoldable pub number_in : ℕ → Expr → Option ℤ
number_in left e = number_by (out-Form (form_of e)) left
