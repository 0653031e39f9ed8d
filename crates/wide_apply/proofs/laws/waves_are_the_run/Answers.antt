use Rattle.wide_apply.proofs.WidePermutation.{waves_are_the_run as law}
use Rattle.wide_apply.proofs.laws.waves_are_the_run.Goals as goal

pub returns : goal.returns
returns c = law
