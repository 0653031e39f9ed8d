-- What the tables hold.
use Rattle.std.specs.Prelude.{List, map}
use Rattle.pp_values.specs.Views.{view}
use Rattle.pp_values.specs.declared.value.Value.{Value}
use Rattle.override_rules.specs.Defaults.{Default}
use Rattle.override_rules.specs.declared.default_key.DefaultKey.{DefaultKey}

abbrev pub default_of : DefaultKey × Value → Default
default_of e = (e.0, view e.1)

abbrev pub defaults_of : List (DefaultKey × Value) → List Default
defaults_of = map default_of
