-- The code by which a proof tells states apart.
use Rattle.std.specs.Prelude.{ℕ, List}
use Rattle.std.specs.Coded.{Coded, coded×, coded_list}
use Rattle.pp_values.specs.Codes.{coded_text}
use Rattle.pp_values.specs.Settings.{Setting, coded_settings}

abbrev pub coded_state : Coded (List (List ℕ × List Setting))
coded_state = coded_list (coded× coded_text coded_settings)
