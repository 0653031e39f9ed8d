-- What a look-up found, and what was looked up within it.
use Rattle.std.specs.Prelude.{List, Option, option_map}
use Rattle.pp_values.specs.Datum.{Datum}
use Rattle.pp_values.specs.Views.{view}
use Rattle.hiera_lookup.specs.declared.looked.Looked.{Looked}
use Rattle.hiera_lookup.specs.Filled.{Answer}

abbrev pub Found : Type 0
Found = Option Datum × List Answer

abbrev pub looked_view : Looked → Found
looked_view l = (option_map view l.value, l.answers)
