use Rattle.pp_values.proofs.Lists.{pairs_of-entries_of}
use Rattle.hiera_merge.proofs.hashing.keyed_over.Goals as goal

pub returns-in-Hash : goal.returns-in-Hash
returns-in-Hash c = rw (c.in-Hash.is, pairs_of-entries_of c.in-Hash.pairs) c.keyed_each.ensures
