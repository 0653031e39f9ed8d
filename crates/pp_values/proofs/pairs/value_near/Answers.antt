use Rattle.std.proofs.Common.{arith}
use Rattle.std.proofs.lemmas.Grind.{common_steps}
use Rattle.pp_values.specs.Views.{view}
use Rattle.pp_values.proofs.Distinct.{value_at-place}
use Rattle.pp_values.proofs.pairs.value_near.Goals as goal

pub returns-then-same_key : goal.returns-then-same_key
returns-then-same_key c =
    grind (arith, common_steps, value_at-place (view c.args.key.now) c.args.items.now c.args.place c.index-items-place.result)
