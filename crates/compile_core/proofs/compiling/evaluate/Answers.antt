use Rattle.world_laws.proofs.Started.{main_placed}
use Rattle.compile_core.proofs.compiling.evaluate.Goals as goal

pub run_rounds-requires : goal.run_rounds-requires
run_rounds-requires c =
    main_placed c.args.evaluator.now.world c.run_main.new.self.world _ _ _ c.requires c.in_ok-run_main.ensures.world
