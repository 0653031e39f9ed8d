use Rattle.hiera_merge.proofs.Keys.{key_at}
use Rattle.hiera_merge.proofs.hashing.put_each.Goals as goal

pub put-requires : goal.put-requires
put-requires c =
    key_at _ _ _ _ _ c.as_slice-key-items.ensures.pairs c.as_slice-key-items.ensures.distinct c.loop-key-test.true
    c.loop-key-item.is c.in_ok-key.ensures
