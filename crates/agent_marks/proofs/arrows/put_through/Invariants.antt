-- The arrows through the resources below the index.
use Rattle.std.proofs.Common.{ℕ, List}
use Rattle.agent_marks.specs.Nodes.{AreArrows}
use Rattle.agent_marks.proofs.arrows.put_through.Given as goal

abbrev pub invariant-loop-at : goal.invariant-loop-at
invariant-loop-at l =
    (containers edges : List (ℕ × ℕ)) → AreArrows 0 containers edges l.initial.arrows.items →
    AreArrows l.at containers edges l.arrows.items
