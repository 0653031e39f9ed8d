-- All operators over two values: the table of those that ask nothing of types, and beside it `in` and access with a
-- data type on the left.
use Rattle.std.specs.Prelude.{Bool, true, false, Result, Ok}
use Rattle.std.specs.List.{list_any}
use Rattle.pp_values.specs.declared.fault.Fault.{Fault}
use Rattle.pp_values.specs.declared.place.Place.{Place}
use Rattle.pp_values.specs.Datum.{Datum, flag, list, hash, kind, members_of, pairs_of}
use Rattle.pp_values.specs.Sort.{Sort}
use Rattle.pp_ops.specs.declared.op.Op.{Op}
use Rattle.pp_ops.specs.declared.op.Op.TheVariants as op
use Rattle.pp_ops.specs.Operators.{applied}
use Rattle.pp_types.specs.Accepts.{type_accepts}
use Rattle.expr_eval.specs.TypeValues.{type_accessed}

-- `in` with a data type on the left: it accepts some member of a list, or some key of a hash
abbrev pub accepts_some : Sort → Datum → Bool
accepts_some s (list ds) = list_any (type_accepts s) (members_of ds)
accepts_some s (hash es) = list_any (λ p. type_accepts s p.0) (pairs_of es)
accepts_some s d = false

abbrev pub combined : Op → Datum → Datum → Place → Result Datum Fault
combined op.Member (kind s) d at = Ok (flag (accepts_some s d))
combined op.Access (kind s) d at = type_accessed s d at
combined o a b at = applied o a b at
