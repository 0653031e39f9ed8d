use Rattle.hiera_merge.proofs.Keys.{key_at}
use Rattle.hiera_merge.proofs.hashing.keyed_each.Goals as goal

pub with-requires : goal.with-requires
with-requires c =
    key_at _ _ _ _ _ c.as_slice-key-items.ensures.pairs c.as_slice-key-items.ensures.distinct c.loop-key-test.true
    c.loop-key-item.is c.in_ok-key.ensures
