-- A `Tuple` that is not bare.
use Rattle.std.proofs.Common.{IsTrue, arith}
use Rattle.pp_types.proofs.Given.{tuple_form-given}
use Rattle.pp_types.proofs.layer.tuple_layer.Goals as goal

pub returns-else-is_empty : goal.returns-else-is_empty
returns-else-is_empty c = tuple_form-given c.args.types.now
    (λ e. let yes : IsTrue c.is_empty.result = c.is_empty.ensures.1 e in let no =
    c.if-is_empty.false in absurd (grind (arith, yes, no)))
