-- Which chains of operators are taken over values that are there: none is copied for them.
use Rattle.std.specs.Prelude.{ℕ, Bool, true, false, ◌&&◌, ◌||◌, is_ok, is_some, List, Option, None, Some}
use Rattle.pp_ops.specs.Operators.{computed}
use Rattle.pp_ops.specs.declared.op.Op.{Op}
use Rattle.pp_ops.specs.declared.op.Op.TheVariants as op
use Rattle.pp_tree.specs.declared.expr.Expr.{Expr}
use Rattle.pp_tree.specs.declared.expr.Operation.{Operation}
use Rattle.pp_values.specs.Datum.{Datum, int}
use Rattle.scope_core.specs.Scopes.{Scopes}
use Rattle.eval_world.specs.Leaves.{known_in, number_in}
use Rattle.eval_world.specs.Shapes.{only}
use Rattle.eval_world.specs.declared.here.Here.{Here}
use Rattle.eval_forms.specs.Operators.{kind_of}
use Rattle.eval_forms.specs.declared.operator_kind.OperatorKind.{OperatorKind}
use Rattle.eval_forms.specs.declared.operator_kind.OperatorKind.TheVariants as kind

-- a variable that has a value
abbrev pub is_known : ℕ → Expr → Here → Scopes → Bool
is_known left e here s = is_some (known_in left e here s)

abbrev pub takes_values : OperatorKind → Bool
takes_values (kind.Combine o) = true
takes_values k = false

abbrev pub is_over_known_by : ℕ → Expr → Option (Operation Expr) → Here → Scopes → Bool
is_over_known_by left first None here s = false
is_over_known_by left first (Some o) here s = takes_values (kind_of o.operator)
    && (is_known left first here s && (is_some (number_in left o.right) || is_known left o.right here s))

-- one operator that takes the values of both operands, between such a variable and another one or an integer
abbrev pub is_over_known : ℕ → Expr → List (Operation Expr) → Here → Scopes → Bool
is_over_known left first os here s = is_over_known_by left first (only os) here s

abbrev pub adds : Op → Bool
adds op.Add = true
adds op.Subtract = true
adds o = false

abbrev pub are_integers : Datum → Datum → Bool
are_integers (int a) (int b) = true
are_integers a b = false

-- the sum or the difference of two integers, where it has 64 bits
abbrev pub is_of_integers : Op → Datum → Datum → Bool
is_of_integers o a b = adds o && (are_integers a b && is_ok (computed o a b))
