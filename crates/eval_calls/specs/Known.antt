-- Which calls take the value of a variable where it stands: it is not copied for them.
use Rattle.std.specs.Prelude.{ℕ, Bool, false, not, ◌&&◌, is_none, is_some, List, Option, None, Some}
use Rattle.pp_funcs.specs.Names.{needs_evaluator}
use Rattle.pp_tree.specs.declared.expr.Call.{Call, out-Call}
use Rattle.pp_tree.specs.declared.expr.Expr.{Expr}
use Rattle.scope_core.specs.Scopes.{Scopes}
use Rattle.eval_world.specs.Leaves.{known_in}
use Rattle.eval_world.specs.Shapes.{is_splat, only}
use Rattle.eval_world.specs.declared.here.Here.{Here}
use Rattle.eval_calls.specs.Names.{is_computed}

abbrev pub is_of_known_by : ℕ → List ℕ → Option Expr → Here → Scopes → Bool
is_of_known_by left f None here s = false
is_of_known_by left f (Some e) here s =
    not (is_splat e) && (is_some (known_in left e here s) && (not (needs_evaluator f) && is_computed f))

-- the function is one of its arguments alone, and the one argument a variable that has a value
abbrev pub is_of_known : ℕ → List ℕ → List Expr → Here → Scopes → Bool
is_of_known left f args here s = is_of_known_by left f (only args) here s

-- the same of a call without a lambda
abbrev pub is_known_call : ℕ → List ℕ → Call → Here → Scopes → Bool
is_known_call left f c here s = is_none (out-Call c).lambda && is_of_known left f (out-Call c).args here s
