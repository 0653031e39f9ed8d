use Rattle.override_rules.proofs.WaysOut.{defaults_suffice, names_suffice}
use Rattle.override_rules.proofs.ways.scopes_suffice.Goals as goal

pub returns-clause-defaults : goal.returns-clause-defaults
returns-clause-defaults c = defaults_suffice

pub returns-clause-names : goal.returns-clause-names
returns-clause-names c = names_suffice
