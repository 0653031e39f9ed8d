use Rattle.eval_resources.proofs.NameSets.{filled_by_few}
use Rattle.eval_resources.proofs.filling.filled.Goals as goal

pub returns-in-empty : goal.returns-in-empty
returns-in-empty c = filled_by_few c.args.own c.args.before c.args.defaults.now c.in-empty.len_below
