-- Steps over values that are there already, at the place of an expression.
use Rattle.std.specs.Prelude.{ℕ, List}
use Rattle.expr_eval.specs.Combining as steps
use Rattle.eval_world.specs.Outcomes.{Step}
use Rattle.eval_world.specs.Worlds.{answered_at, fault}
use Rattle.eval_world.specs.declared.here.Here.{Here}
use Rattle.pp_ops.specs.declared.op.Op.{Op}
use Rattle.pp_values.specs.Datum.{Datum}
use Rattle.pp_values.specs.declared.fault.What.TheVariants as what

-- an operator over two values
unfoldable pub combined : Op → Datum → Datum → ℕ → Here → Step Datum
combined op left right line here = answered_at (steps.combined op left right) line here

-- the fault that an operator does not take what it is given
abbrev pub bad_operand : {A : Type 0} → List ℕ → ℕ → Here → Step A
bad_operand operator line here = fault here line (what.BadOperand operator)
