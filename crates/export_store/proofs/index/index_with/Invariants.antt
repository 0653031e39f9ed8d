-- The node has the set under the keys before the index.
use Rattle.std.proofs.Common.{Some, take}
use Rattle.std.specs.Arc.{arc_value}
use Rattle.export_store.specs.Indexing.{SetsUnder}
use Rattle.export_store.proofs.index.index_with.Given as goal

abbrev pub invariant-loop-key : goal.invariant-loop-key
invariant-loop-key l = SetsUnder (take l.key-index l.keys) l.node (Some (arc_value l.set)) l.index l.new
