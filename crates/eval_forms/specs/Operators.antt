-- Operators before and between values, and assignments.
use Rattle.std.specs.Prelude.{ℕ, Bool, true, false, not, List, [], ◌∷◌}
use Rattle.expr_eval.specs.Spreading.{spread}
use Rattle.expr_eval.specs.Testing.{is_of}
use Rattle.expr_eval.specs.Truth.{is_true}
use Rattle.pp_ops.specs.declared.op.Op.{Op}
use Rattle.pp_ops.specs.declared.op.Op.TheVariants as op
use Rattle.pp_tree.specs.declared.expr.Expr.{Expr}
use Rattle.pp_tree.specs.declared.expr.Operation.{Operation}
use Rattle.pp_tree.specs.declared.operators.BinaryOperator.{BinaryOperator}
use Rattle.pp_tree.specs.declared.operators.BinaryOperator.TheVariants as binary
use Rattle.pp_tree.specs.declared.operators.PrefixOperator.{PrefixOperator}
use Rattle.pp_tree.specs.declared.operators.PrefixOperator.TheVariants as prefix
use Rattle.pp_values.specs.Datum.{Datum, undef, flag}
use Rattle.eval_world.specs.Inner.{Inner}
use Rattle.eval_world.specs.Outcomes.{Step, ◌>>=◌, ◌>>◌, pure}
use Rattle.eval_world.specs.Worlds.{answered_at, assign}
use Rattle.eval_world.specs.declared.here.Here.{Here}
use Rattle.eval_forms.specs.Answering.{combined}
use Rattle.eval_forms.specs.declared.operator_kind.OperatorKind.{OperatorKind}
use Rattle.eval_forms.specs.declared.operator_kind.OperatorKind.TheVariants as kind

-- an operator before a value; `*` among arguments and in a list splices what this gives
abbrev pub prefixed : PrefixOperator → Datum → ℕ → Here → Step Datum
prefixed prefix.Not d line here = pure (flag (not (is_true d)))
prefixed prefix.Negate d line here = combined op.Negate d undef line here
prefixed prefix.Splat d line here = pure (spread d)

-- `!$a`, `-$a`, `*$a`
unfoldable pub prefix_rule : Inner → PrefixOperator → Expr → ℕ → Here → Step Datum
prefix_rule inner o e line here = do
  d ← inner.value e here
  prefixed o d line here

-- whether an expression counts as true
unfoldable pub truth_rule : Inner → Expr → Here → Step Bool
truth_rule inner e here = do
  d ← inner.value e here
  pure (is_true d)

-- `and` and `or` give a truth value, and ask the right side only where the left one leaves it open
unfoldable pub open_rule : Inner → Bool → Bool → Expr → Here → Step Datum
open_rule inner false answer e here = pure (flag answer)
open_rule inner true answer e here = do
  truth ← truth_rule inner e here
  pure (flag truth)

-- what `=~` and `!~` make of whether the value is of the type
abbrev pub as_wanted : Bool → Bool → Bool
as_wanted true is_one = is_one
as_wanted false is_one = not is_one

unfoldable pub match_rule : Inner → Bool → Datum → Expr → ℕ → Here → Step Datum
match_rule inner wanted left e line here = do
  right ← inner.value e here
  is_one ← answered_at (is_of left right) line here
  pure (flag (as_wanted wanted is_one))

-- the other operators
unfoldable pub both_rule : Inner → Op → Datum → Expr → ℕ → Here → Step Datum
both_rule inner o left e line here = do
  right ← inner.value e here
  combined o left right line here

-- how each operator between values goes
abbrev pub kind_of : BinaryOperator → OperatorKind
kind_of binary.In = kind.Combine op.Member
kind_of binary.Match = kind.Match true
kind_of binary.NoMatch = kind.Match false
kind_of binary.Multiply = kind.Combine op.Multiply
kind_of binary.Divide = kind.Combine op.Divide
kind_of binary.Modulo = kind.Combine op.Modulo
kind_of binary.Add = kind.Combine op.Add
kind_of binary.Subtract = kind.Combine op.Subtract
kind_of binary.Append = kind.Combine op.Append
kind_of binary.Equal = kind.Combine op.Equal
kind_of binary.NotEqual = kind.Combine op.NotEqual
kind_of binary.AtLeast = kind.Combine op.AtLeast
kind_of binary.AtMost = kind.Combine op.AtMost
kind_of binary.Greater = kind.Combine op.Greater
kind_of binary.Less = kind.Combine op.Less
kind_of binary.And = kind.And
kind_of binary.Or = kind.Or

-- an operator behind a value, and its right operand
abbrev pub operation_by : Inner → OperatorKind → Datum → Expr → ℕ → Here → Step Datum
operation_by inner (kind.Combine o) left e line here = both_rule inner o left e line here
operation_by inner (kind.Match wanted) left e line here = match_rule inner wanted left e line here
operation_by inner kind.And left e line here = open_rule inner (is_true left) false e here
operation_by inner kind.Or left e line here = open_rule inner (not (is_true left)) true e here

unfoldable pub operation_rule : Inner → Datum → Operation Expr → ℕ → Here → Step Datum
operation_rule inner left o line here = operation_by inner (kind_of o.operator) left o.right line here

-- operations of one strength, from the left; `line` is that of the chain's first token
unfoldable pub operations_from : Inner → Datum → List (Operation Expr) → ℕ → Here → Step Datum
operations_from inner done [] line here = pure done
operations_from inner done (o ∷ os) line here = do
  more ← operation_rule inner done o line here
  operations_from inner more os line here

-- `$a + 1 - $b`
unfoldable pub binary_rule : Inner → Expr → List (Operation Expr) → ℕ → Here → Step Datum
binary_rule inner first os line here = do
  d ← inner.value first here
  operations_from inner d os line here

-- `$a = 1`: the value first, and then the fault where the name has one already. It gives the value.
unfoldable pub assigned_rule : Inner → List ℕ → Expr → ℕ → Here → Step Datum
assigned_rule inner name e line here = do
  d ← inner.value e here
  assign here name d line
  pure d
