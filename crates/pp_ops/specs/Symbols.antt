-- How operators are written, and the fault that a refusal is.
use Rattle.std.specs.Prelude.{ℕ, List, codes}
use Rattle.pp_values.specs.declared.fault.Fault.{Fault}
use Rattle.pp_values.specs.declared.fault.What.{What}
use Rattle.pp_values.specs.declared.fault.What.TheVariants as what
use Rattle.pp_values.specs.declared.place.Place.{Place}
use Rattle.pp_values.specs.Faults.{fault}
use Rattle.pp_ops.specs.declared.op.Op.{Op}
use Rattle.pp_ops.specs.declared.op.Op.TheVariants as op
use Rattle.pp_ops.specs.declared.refusal.Refusal.{Refusal}
use Rattle.pp_ops.specs.declared.refusal.Refusal.TheVariants as refusal

-- as it is written; access is `[]`
abbrev pub symbol : Op → List ℕ
symbol op.Add = codes "+"
symbol op.Subtract = codes "-"
symbol op.Multiply = codes "*"
symbol op.Divide = codes "/"
symbol op.Modulo = codes "%"
symbol op.Append = codes "<<"
symbol op.Equal = codes "=="
symbol op.NotEqual = codes "!="
symbol op.Less = codes "<"
symbol op.Greater = codes ">"
symbol op.AtMost = codes "<="
symbol op.AtLeast = codes ">="
symbol op.Member = codes "in"
symbol op.Negate = codes "-"
symbol op.Access = codes "[]"

-- unfit operands, a result that is no 64-bit integer, a divisor of 0; each names the operator
abbrev pub refused : Refusal → List ℕ → What
refused refusal.Operand written = what.BadOperand written
refused refusal.Range written = what.NumberRange written
refused refusal.Zero written = what.ZeroDivisor written

abbrev pub refusal_fault : Op → Place → Refusal → Fault
refusal_fault o at r = fault at (refused r (symbol o))
