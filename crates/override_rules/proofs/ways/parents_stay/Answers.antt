use Rattle.override_rules.proofs.Opening.{none_nested, opened_nested, opened_stays, way_stays}
use Rattle.override_rules.proofs.ways.parents_stay.Goals as goal

pub returns-clause-opened : goal.returns-clause-opened
returns-clause-opened c = opened_stays

pub returns-clause-first : goal.returns-clause-first
returns-clause-first c = none_nested

pub returns-clause-nested : goal.returns-clause-nested
returns-clause-nested c = opened_nested

pub returns-clause-way : goal.returns-clause-way
returns-clause-way c = λ old new s nested stay there. way_stays old new nested stay s there
