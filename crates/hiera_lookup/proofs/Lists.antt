-- Lists of members that are filled in.
use Rattle.std.proofs.Common.{◌≡◌, List, [], ◌∷◌, refl, ap, map}
use Rattle.pp_values.specs.Datum.{Datum, data_of, datum}
use Rattle.hiera_lookup.specs.Filled.{Gives, filled, list_filled}

pub list_filled-data_of : (reads looks : Gives) (ds : List Datum)
    → list_filled reads looks (data_of ds) ≡ data_of (map (filled reads looks) ds)
list_filled-data_of reads looks [] = refl
list_filled-data_of reads looks (d ∷ ds) = ap (datum (filled reads looks d)) (list_filled-data_of reads looks ds)
