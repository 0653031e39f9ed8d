-- The variables that the code reads.
use Rattle.std.specs.Prelude.{Option, None, Some}
use Rattle.pp_values.specs.Views.{view}
use Rattle.hiera_config.specs.declared.names.Hidden.{Hidden}
use Rattle.hiera_config.specs.declared.names.Names.{Names}
use Rattle.hiera_config.specs.declared.variables.Variables as declared
use Rattle.hiera_config.specs.Variables.{Variables, in_scope, hiding}

abbrev pub seen : declared.Variables → Variables
seen v = in_scope v.scope.number v.scopes.now

abbrev pub hiding_if : Option Hidden → Variables → Variables
hiding_if None variables = variables
hiding_if (Some hidden) variables = hiding hidden.name.now (view hidden.value.now) variables

abbrev pub names_seen : Names → Variables
names_seen n = hiding_if n.hidden (seen n.variables.now)
