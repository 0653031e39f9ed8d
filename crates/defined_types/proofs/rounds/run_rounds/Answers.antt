use Rattle.defined_types.specs.Watched.{seen}
use Rattle.defined_types.proofs.Saved.{few_told, rounds_told}
use Rattle.defined_types.proofs.rounds.run_rounds.Goals as goal

pub returns-clause-world : goal.returns-clause-world
returns-clause-world c =
    rounds_told c.args.node.now c.args.sets.now (seen c.args.evaluator.now c.new-watch.result)
    (seen c.all_rounds.new.evaluator c.all_rounds.new.watch) c.all_rounds.result c.new-watch.ensures.told
    c.new-watch.ensures.turns c.requires c.all_rounds.ensures.told

pub returns-clause-looks : goal.returns-clause-looks
returns-clause-looks c =
    few_told c.args.node.now c.args.sets.now (seen c.args.evaluator.now c.new-watch.result)
    (seen c.all_rounds.new.evaluator c.all_rounds.new.watch) c.all_rounds.result c.new-watch.ensures.told
    c.new-watch.ensures.turns c.requires c.all_rounds.ensures.told
