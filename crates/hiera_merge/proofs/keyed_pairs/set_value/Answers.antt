use Rattle.std.proofs.Common.{arith}
use Rattle.std.proofs.lemmas.Grind.{common_steps}
use Rattle.pp_values.proofs.Distinct.{pair_views-set}
use Rattle.hiera_merge.proofs.keyed_pairs.set_value.Goals as goal

pub returns : goal.returns
returns c = grind (arith, common_steps, pair_views-set c.args.items.now.items c.args.place c.args.value c.index_mut.result.now)
