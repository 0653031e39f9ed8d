use Rattle.pp_values.proofs.Lists.{pairs_of-entries_of}
use Rattle.hiera_lookup.proofs.option_reading.has_options.Goals as goal

pub returns-in-Hash : goal.returns-in-Hash
returns-in-Hash c =
    rw (c.in-Hash.is, pairs_of-entries_of c.in-Hash.pairs, ← c.as_slice.ensures.pairs) c.has_key.ensures
