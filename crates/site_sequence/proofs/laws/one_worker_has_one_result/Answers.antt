use Rattle.site_core.specs.declared.history.TheConstants.{MOST_ENTRIES}
use Rattle.site_sequence.proofs.OneResult.{whole_in_turn, one_result}
use Rattle.site_sequence.proofs.laws.one_worker_has_one_result.Goals as goal

pub returns-clause-in_turn : goal.returns-clause-in_turn
returns-clause-in_turn g c = whole_in_turn g.L.Language.meaning g.L.Language.listed MOST_ENTRIES

pub returns-clause-one : goal.returns-clause-one
returns-clause-one g c = one_result g.L.Language.meaning g.L.Language.listed MOST_ENTRIES
