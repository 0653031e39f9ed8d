-- A value as a list of values.
use Rattle.std.specs.Prelude.{List, [], ◌∷◌}
use Rattle.pp_values.specs.Datum.{Datum, members_of, list}

-- a list's members, or else the value alone; lists within stay as they are
abbrev pub opened : Datum → List Datum
opened (list ds) = members_of ds
opened d = d ∷ []
