use Rattle.std.proofs.lemmas.Result.{err_from_is_err_and}
use Rattle.class_eval.proofs.Runs.{main_refused}
use Rattle.class_eval.proofs.evaluator.run_file.Goals as goal

pub returns-in_err-run : goal.returns-in_err-run
returns-in_err-run c =
    let p = err_from_is_err_and c.from_residual.result c.from_residual.ensures.1 in
    rw (p.1, p.2)
    (main_refused c.levels_left.result c.args.main.now c.args.node.now c.args.world.now c.levels_left.ensures
    c.in_err-run.field-0.0 (rw c.top.ensures at c.in_err-run.ensures))
