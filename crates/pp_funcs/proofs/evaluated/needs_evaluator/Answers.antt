-- The table is the one of the definition.
use Rattle.pp_funcs.specs.Names.{needs_evaluator}
use Rattle.pp_funcs.proofs.evaluated.needs_evaluator.Goals as goal

pub returns : goal.returns
unfolding needs_evaluator
returns c = c.is_listed.ensures
