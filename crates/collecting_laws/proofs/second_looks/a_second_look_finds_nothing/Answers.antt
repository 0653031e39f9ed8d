use Rattle.collecting_laws.proofs.Looking.{quiet_again, quiet_later, quiet_second, touched_rises}
use Rattle.collecting_laws.proofs.second_looks.a_second_look_finds_nothing.Goals as goal

pub returns-clause-again : goal.returns-clause-again
returns-clause-again c = quiet_again

pub returns-clause-later : goal.returns-clause-later
returns-clause-later c = quiet_later

pub returns-clause-rises : goal.returns-clause-rises
returns-clause-rises c = touched_rises

pub returns-clause-second : goal.returns-clause-second
returns-clause-second c = quiet_second
