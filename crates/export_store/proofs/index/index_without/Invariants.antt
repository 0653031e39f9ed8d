-- The node has no set under the keys before the index.
use Rattle.std.proofs.Common.{None, take}
use Rattle.export_store.specs.Indexing.{SetsUnder}
use Rattle.export_store.proofs.index.index_without.Given as goal

abbrev pub invariant-loop-key : goal.invariant-loop-key
invariant-loop-key l = SetsUnder (take l.key-index l.keys) l.node None l.index l.new
