-- The places so far, and then those in the leaves from the index on.
use Rattle.std.proofs.Common.{◌≡◌, ◌++◌, drop, option_copied}
use Rattle.export_store.specs.ExportQueries.{found_in}
use Rattle.export_store.specs.Levels.{leaves_entries}
use Rattle.export_store.proofs.queries.push_from_leaves.Given as goal

abbrev pub invariant-loop-leaf : goal.invariant-loop-leaf
invariant-loop-leaf l =
    l.places.items ++ found_in l.kind (option_copied l.tag) l.but_node (leaves_entries (drop l.leaf-index l.leaves))
    ≡ l.fn.places.items ++ found_in l.kind (option_copied l.tag) l.but_node (leaves_entries l.leaves)
