use Rattle.wide_apply.proofs.MadeWaves.{some_told_wide}
use Rattle.wide_apply.proofs.laws.there_is_a_told_run_by_waves.Goals as goal

pub returns : goal.returns
returns c = some_told_wide
