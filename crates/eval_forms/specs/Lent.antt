-- Which accesses find a value that is lent: none is copied for them.
use Rattle.std.specs.Prelude.{ℕ, suc, List, Option, None, Some, option_and_then, option_map}
use Rattle.std.specs.Option.{option_or}
use Rattle.pp_ops.specs.Accesses.{member_at}
use Rattle.pp_tree.specs.Building.{form_of}
use Rattle.pp_tree.specs.Layers.{FormLayer}
use Rattle.pp_tree.specs.declared.collector.Test.TheOpen.{Form-F}
use Rattle.pp_tree.specs.declared.expr.Expr.{Expr}
use Rattle.pp_tree.specs.declared.expr.Form.{out-Form}
use Rattle.pp_values.specs.Datum as d
use Rattle.pp_values.specs.Datum.{Datum, members_of, pairs_of}
use Rattle.pp_values.specs.Keys.{value_at}
use Rattle.scope_core.specs.Scopes.{Scopes}
use Rattle.eval_world.specs.Leaves.{known_in, number_in}
use Rattle.eval_world.specs.Shapes.{only}
use Rattle.eval_world.specs.declared.here.Here.{Here}

abbrev pub text_by : FormLayer → ℕ → Option Datum
text_by (Form-F.Text t) (suc left) = Some (d.text t)
text_by (Form-F.Name t) (suc left) = Some (d.text t)
text_by _ left = None

-- the text or the name that an expression is by itself
unfoldable pub text_in : ℕ → Expr → Option Datum
text_in left e = text_by (out-Form (form_of e)) left

-- a key that is there: the value of a variable, or an integer, a text or a name as it is written
abbrev pub key_in : ℕ → Expr → Here → Scopes → Option Datum
key_in left e here s =
    option_or (known_in left e here s) (option_or (option_map d.int (number_in left e)) (text_in left e))

-- what a list has at a place, and a hash for a key; no other access is looked up so
abbrev pub held_in : Datum → Datum → Option (Option Datum)
held_in (d.list ds) (d.int at) = Some (member_at at (members_of ds))
held_in (d.hash es) k = Some (value_at k (pairs_of es))
held_in whole k = None

abbrev pub held_at : ℕ → Datum → Here → Scopes → Expr → Option (Option Datum)
held_at left whole here s e = option_and_then (held_in whole) (key_in left e here s)

-- what an access with this one key finds, where that is lent
abbrev pub lent_in : ℕ → Datum → List Expr → Here → Scopes → Option (Option Datum)
lent_in left whole es here s = option_and_then (held_at left whole here s) (only es)
