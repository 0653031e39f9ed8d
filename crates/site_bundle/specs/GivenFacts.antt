-- Facts that a bundle gives.
use Rattle.std.specs.Prelude.{if◌then◌else◌, Option, Some, None, option_and_then}
use Rattle.json_values.specs.FromData.{data_value}
use Rattle.json_values.specs.declared.stops.Numbers.TheVariants.{Lenient}
use Rattle.pp_values.specs.Datum.{Datum}
use Rattle.pp_values.specs.Facts.{are_facts}
use Rattle.serde_json.specs.Data.{Data, null, boolean, number, string, array, object}

-- An object's names are read in rising order, so that its value is always facts.
abbrev pub if_facts : Datum → Option Datum
if_facts d = if are_facts d then Some d else None

-- the value of an object, in which a number that is no 64-bit integer is Undef; nothing else gives facts
abbrev pub given_facts : Data → Option Datum
given_facts null = None
given_facts (boolean b) = None
given_facts (number n) = None
given_facts (string s) = None
given_facts (array ds) = None
given_facts (object ms) = option_and_then if_facts (data_value Lenient (object ms))
