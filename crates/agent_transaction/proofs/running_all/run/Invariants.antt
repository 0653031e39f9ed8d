-- The turns so far, with the marks that they left, and room for those that are left.
use Rattle.std.proofs.Common.{ℕ, ◌+◌, ◌≤◌, List, map, length}
use Rattle.std.specs.Prelude.{vec_capacity}
use Rattle.rel_graph.specs.Before.{Before, Direct}
use Rattle.agent_marks.specs.Spreads.{IsNew}
use Rattle.agent_transaction.specs.Marking.{planned_pair, Going, AreBelow}
use Rattle.agent_transaction.proofs.running_all.run.Given as goal

abbrev pub invariant-loop-planned : goal.invariant-loop-planned
invariant-loop-planned g l =
    let state = g.M.Machine.state in
    record {
      going : (containers edges signals : List (ℕ × ℕ)) (count : ℕ) → IsNew count (Before containers edges) l.fn.blocked →
          IsNew count (Direct containers signals) l.fn.signalled →
          Going (Before containers edges) (Direct containers signals) (map planned_pair l.fn.plan) (map planned_pair l.left)
          l.lines.items l.blocked l.signalled (state l.fn.machine) (state l.machine);
      room : length l.lines.items + length l.left ≤ vec_capacity l.lines;
      below : AreBelow l.blocked.count l.left;
      below_too : AreBelow l.signalled.count l.left;
    }

abbrev pub decreases-loop-planned : goal.decreases-loop-planned
decreases-loop-planned g l = length l.left
