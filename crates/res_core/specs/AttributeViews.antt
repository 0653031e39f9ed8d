-- What attributes say.
use Rattle.std.specs.Prelude.{ℕ, List, map, Option, find, option_map}
use Rattle.std.specs.Str.{bytes_eq}
use Rattle.pp_values.specs.Datum.{Datum}
use Rattle.pp_values.specs.Views.{view}
use Rattle.res_core.specs.declared.attribute.Attribute.{Attribute}
use Rattle.pp_values.specs.Settings.{Setting}

abbrev pub setting : Attribute → Setting
setting a = (a.name, view a.value)

abbrev pub settings : List Attribute → List Setting
settings = map setting

-- what the attribute of this name is set to, where it is set
abbrev pub set_in : List Setting → List ℕ → Option Datum
set_in ss name = option_map (λ s. s.1) (find (λ s. bytes_eq s.0 name) ss)
