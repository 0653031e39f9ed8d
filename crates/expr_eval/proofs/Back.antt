-- Lists of members and of pairs, as data and as lists.
use Rattle.std.proofs.Common.{◌≡◌, List}
use Rattle.pp_values.specs.Datum.{Datum, Pair, data_of, members_of, entries_of, pairs_of}
use Rattle.pp_values.proofs.Lists.{members_of-data_of, pairs_of-entries_of}

pub members_back : (ds : List Datum) → members_of (data_of ds) ≡ ds
members_back ds = members_of-data_of ds

pub pairs_back : (ps : List Pair) → pairs_of (entries_of ps) ≡ ps
pairs_back ps = pairs_of-entries_of ps
