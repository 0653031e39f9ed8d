-- What is on the stack is still to be followed.
use Rattle.std.proofs.Common.{◌+◌, ◌≤◌, length, count_by, not}
use Rattle.std.specs.Prelude.{vec_capacity}
use Rattle.agent_marks.specs.Nodes.{Reaching}
use Rattle.agent_marks.proofs.spreading.reach.Given as goal

abbrev pub invariant-loop-node : goal.invariant-loop-node
invariant-loop-node l = record {
  marks : Reaching l.arrows l.fn.marks.items l.from l.marks.items l.stack.items;
  room : length l.stack.items + count_by not l.marks.items ≤ vec_capacity l.stack;
}

abbrev pub decreases-loop-node : goal.decreases-loop-node
decreases-loop-node l = length l.stack.items + count_by not l.marks.items
