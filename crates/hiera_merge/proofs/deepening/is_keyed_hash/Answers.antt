use Rattle.pp_values.proofs.Lists.{pairs_of-entries_of}
use Rattle.hiera_merge.proofs.deepening.is_keyed_hash.Goals as goal

pub returns-in-Hash : goal.returns-in-Hash
returns-in-Hash c = rw (c.in-Hash.is, pairs_of-entries_of c.in-Hash.pairs) c.is_keyed.ensures
