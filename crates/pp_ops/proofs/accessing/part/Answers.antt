-- The slice is the part.
use Rattle.std.proofs.Common.{arith}
use Rattle.std.proofs.lemmas.Grind.{common_steps}
use Rattle.pp_ops.proofs.Parts.{part_clipped}
use Rattle.pp_ops.proofs.accessing.part.Goals as goal

pub returns : goal.returns
returns c = grind (arith, common_steps, part_clipped c.args.items.now c.args.from c.args.count)
