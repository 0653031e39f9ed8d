use Rattle.pp_values.specs.Views.{view}
use Rattle.world_laws.proofs.Started.{start_placed}
use Rattle.compile_core.proofs.compiling.compile_environment.Goals as goal

pub complete-requires : goal.complete-requires
complete-requires c =
    start_placed c.in_ok-evaluator.evaluator.world c.args.environment c.args.node.now (view c.args.facts.now)
    c.in_ok-evaluator.ensures.world
