use Rattle.collecting_laws.proofs.Importing.{import_again, import_later}
use Rattle.collecting_laws.proofs.second_looks.a_second_import_finds_nothing.Goals as goal

pub returns-clause-again : goal.returns-clause-again
returns-clause-again c = import_again

pub returns-clause-later : goal.returns-clause-later
returns-clause-later c = import_later
