-- The targets before the index were appended.
use Rattle.std.proofs.Common.{◌≡◌, ◌++◌, take}
use Rattle.rel_graph.proofs.visits.append.Given as goal

abbrev pub invariant-loop-target : goal.invariant-loop-target
invariant-loop-target l = l.ahead.items ≡ l.fn.ahead.items ++ take l.target-index l.targets
