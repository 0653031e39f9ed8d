-- The arrows of the nodes before this one have been looked at.
use Rattle.std.proofs.Common.{◌<◌}
use Rattle.rel_graph.specs.Chains.{Paired}
use Rattle.agent_marks.specs.Levels.{Rises}
use Rattle.agent_marks.proofs.leveling.raise_each.Given as goal

abbrev pub invariant-loop-node : goal.invariant-loop-node
invariant-loop-node l =
    Rises l.arrows l.starts.items (λ u v. (u < l.node) × Paired l.arrows u v) l.rose l.fn.levels.items l.levels.items
