-- Some node is defined where one is from the index on.
use Rattle.std.proofs.Common.{◌≡◌, drop}
use Rattle.class_eval.specs.Evaluating.{has_nodes}
use Rattle.class_eval.proofs.nodes.has_nodes.Given as goal

abbrev pub invariant-loop-index : goal.invariant-loop-index
invariant-loop-index l = has_nodes (drop l.index l.definitions) ≡ has_nodes l.definitions
