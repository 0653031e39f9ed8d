-- Attributes as names with what their values say.
use Rattle.std.specs.Prelude.{ℕ, List, map}
use Rattle.std.specs.Coded.{Coded, coded×, coded_list}
use Rattle.pp_values.specs.Datum.{Datum}
use Rattle.pp_values.specs.Codes.{coded_text, coded_datum}

-- an attribute's name, and what its value says
abbrev pub Setting : Type 0
Setting = List ℕ × Datum

abbrev pub setting_names : List Setting → List (List ℕ)
setting_names = map (λ s. s.0)

-- the code by which a proof tells attributes apart
abbrev pub coded_settings : Coded (List Setting)
coded_settings = coded_list (coded× coded_text coded_datum)
