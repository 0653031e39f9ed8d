use Rattle.defined_types.proofs.OfRounds.{round_grows, rounds_grow}
use Rattle.round_laws.proofs.rounds.rounds_only_add.Goals as goal

pub returns-clause-one : goal.returns-clause-one
returns-clause-one c = round_grows

pub returns-clause-all : goal.returns-clause-all
returns-clause-all c = rounds_grow
