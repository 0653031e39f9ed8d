-- The code by which a proof tells properties apart.
use Rattle.std.specs.Coded.{Coded, coded×}
use Rattle.pp_values.specs.Codes.{coded_text, coded_datum}
use Rattle.pp_values.specs.Settings.{Setting}

abbrev pub coded_setting : Coded Setting
coded_setting = coded× coded_text coded_datum
