-- The pairs copied so far are those before the index.
use Rattle.std.proofs.Common.{◌≡◌, take}
use Rattle.pp_values.specs.PairLists.{fact_views}
use Rattle.pp_values.proofs.fact_pairs.FactPairs.copy.Given as goal

abbrev pub invariant-loop-node : goal.invariant-loop-node
invariant-loop-node l = fact_views l.items.items ≡ fact_views (take l.node-index l.node-items)
