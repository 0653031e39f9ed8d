-- The keys so far, and then those of the resources from the index on.
use Rattle.std.proofs.Common.{◌≡◌, ◌++◌, drop}
use Rattle.export_store.specs.Indexing.{keys_of}
use Rattle.export_store.proofs.index.all_keys.Given as goal

abbrev pub invariant-loop-exported : goal.invariant-loop-exported
invariant-loop-exported l = l.keys.items ++ keys_of (drop l.exported-index l.set.items) ≡ keys_of l.set.items
