-- What a record holds.
use Rattle.std.specs.Prelude.{ℕ, List, map}
use Rattle.pp_values.specs.Views.{view}
use Rattle.pp_values.specs.Settings.{Setting}
use Rattle.pp_values.specs.declared.value.Value.{Value}

-- each name with what its value says
abbrev pub recorded : List (List ℕ × Value) → List Setting
recorded = map (λ e. (e.0, view e.1))
