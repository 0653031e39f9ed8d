-- The pairs of a hash as a list, there and back.
use Rattle.std.proofs.Common.{◌≡◌, List}
use Rattle.pp_values.proofs.Lists.{pairs_of-entries_of}
use Rattle.pp_values.specs.Datum.{Pair, pairs_of, entries_of}

pub pairs_back : (ps : List Pair) → pairs_of (entries_of ps) ≡ ps
pairs_back = pairs_of-entries_of
