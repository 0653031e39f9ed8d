use Rattle.std.proofs.Common.{◌≡◌, ◌++◌}
use Rattle.catalog_finish.proofs.layout.in_order.Given as goal

abbrev pub invariant-loop-index : goal.invariant-loop-index
invariant-loop-index l = l.items.items ++ l.index-iterator ≡ l.fn.found.keys
