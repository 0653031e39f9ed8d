-- The leaves so far are those before the index.
use Rattle.std.proofs.Common.{◌≡◌, ◌+◌, ◌++◌, length, take, All}
use Rattle.export_store.specs.Levels.{leaves_entries, IsLeaf}
use Rattle.export_store.proofs.leaves.push_leaves.Given as goal

abbrev pub invariant-loop-leaf : goal.invariant-loop-leaf
invariant-loop-leaf g l = record {
  entries : leaves_entries l.items.items ≡ leaves_entries l.fn.items.items ++ leaves_entries (take l.leaf-index l.more);
  leaves : All IsLeaf l.fn.items.items → All IsLeaf l.more → All IsLeaf l.items.items;
  count : length l.items.items ≡ length l.fn.items.items + l.leaf-index;
}
