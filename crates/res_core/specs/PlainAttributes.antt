-- Attributes whose values are plain.
use Rattle.std.specs.Prelude.{Bool, List}
use Rattle.std.specs.List.{list_all}
use Rattle.pp_values.specs.Plain.{is_plain_value}
use Rattle.pp_values.specs.Settings.{Setting}

-- no data type and no `default` is within any of them
abbrev pub are_plain : List Setting → Bool
are_plain = list_all (λ s. is_plain_value s.1)
