-- What one line makes of an attribute's value. `None` is an attribute that is not set.
use Rattle.std.specs.Prelude.{Bool, if◌then◌else◌, ◌++◌, Option, None, Some}
use Rattle.pp_values.specs.Datum.{Datum, undef, list, data_of}
use Rattle.pp_values.specs.Members.{opened}

-- `=>`: sets, and Undef unsets
abbrev pub set_to : Datum → Option Datum
set_to undef = None
set_to d = Some d

-- a value that is Undef sets nothing either where it is declared or a default
abbrev pub set_by : Option Datum → Option Datum
set_by None = None
set_by (Some d) = set_to d

-- `+>`: sets what is not set as `=>` does, and else makes a list of the old value and of the new one
abbrev pub appended : Datum → Option Datum → Option Datum
appended d None = set_to d
appended d (Some old) = Some (list (data_of (opened old ++ opened d)))

abbrev pub changed : Bool → Datum → Option Datum → Option Datum
changed append d old = if append then appended d old else set_to d
