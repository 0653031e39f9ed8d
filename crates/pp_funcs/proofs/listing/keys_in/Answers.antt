-- The pairs of a hash, as a list.
use Rattle.std.proofs.Common.{refl}
use Rattle.pp_values.proofs.Lists.{pairs_of-entries_of}
use Rattle.pp_funcs.proofs.listing.keys_in.Goals as goal

pub returns-in_ok-keys_of-in-Hash : goal.returns-in_ok-keys_of-in-Hash
returns-in_ok-keys_of-in-Hash c =
    rw (c.in-Hash.is, pairs_of-entries_of c.in-Hash.pairs, c.in_ok-keys_of-in-Hash.ensures, c.as_slice.ensures.pairs)
    refl
