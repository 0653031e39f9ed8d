use Rattle.site_core.proofs.Steps.{runs, resumed_runs}
use Rattle.site_core.proofs.laws.runs_are_sound.Goals as goal

pub returns-clause-opened : goal.returns-clause-opened
returns-clause-opened g c = runs g.L.Language.meaning

pub returns-clause-resumed : goal.returns-clause-resumed
returns-clause-resumed g c = resumed_runs g.L.Language.meaning
