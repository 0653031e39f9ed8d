-- Faults of the language.
use Rattle.pp_values.specs.declared.fault.Fault.{Fault}
use Rattle.pp_values.specs.declared.fault.What.{What}
use Rattle.pp_values.specs.declared.place.Place.{Place}

-- this fault at this place
abbrev pub fault : Place → What → Fault
fault at what = record { at = at; what = what }
