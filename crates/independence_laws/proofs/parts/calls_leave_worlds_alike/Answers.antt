use Rattle.independence_laws.proofs.Leaving.{leaves_alike}
use Rattle.independence_laws.proofs.Sound.{started_sound}
use Rattle.independence_laws.proofs.parts.calls_leave_worlds_alike.Goals as goal

pub returns-clause-first : goal.returns-clause-first
returns-clause-first c = started_sound

pub returns-clause-leaves : goal.returns-clause-leaves
returns-clause-leaves c = leaves_alike
