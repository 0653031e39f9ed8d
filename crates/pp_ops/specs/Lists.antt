-- Lists under operators.
use Rattle.std.specs.Prelude.{not, List, [], ◌∷◌, map, filter}
use Rattle.std.specs.List.{list_any}
use Rattle.pp_values.specs.Datum.{Datum, list, hash, Pair, data_of, members_of, entries_of, pairs_of}
use Rattle.pp_ops.specs.Same.{same}

abbrev pub as_list : List Datum → Datum
as_list ds = list (data_of ds)

abbrev pub as_hash : List Pair → Datum
as_hash ps = hash (entries_of ps)

-- a pair as a list of two
abbrev pub pair_list : Pair → Datum
pair_list p = as_list (p.0 ∷ p.1 ∷ [])

-- what `+` puts behind a list: the members of a list, the pairs of a hash as lists of two, or one value
abbrev pub as_members : Datum → List Datum
as_members (list ds) = members_of ds
as_members (hash es) = map pair_list (pairs_of es)
as_members d = d ∷ []

-- the members that are exactly the same as none of these
abbrev pub without : List Datum → List Datum → List Datum
without gone ds = filter (λ d. not (list_any (same d) gone)) ds

-- what `-` takes off a list: the members of a list, or one value, which may be a hash
abbrev pub taken_off : Datum → List Datum
taken_off (list ds) = members_of ds
taken_off d = d ∷ []
