-- The targets before the index are marked.
use Rattle.std.proofs.Common.{◌≤◌, take}
use Rattle.std.specs.Prelude.{vec_capacity}
use Rattle.agent_marks.specs.Nodes.{Pushing}
use Rattle.agent_marks.proofs.spreading.mark_all.Given as goal

abbrev pub invariant-loop-target : goal.invariant-loop-target
invariant-loop-target l = record {
  marks : Pushing l.fn.marks.items l.fn.stack.items (take l.target-index l.targets) l.marks.items l.stack.items;
  capacity : vec_capacity l.fn.stack ≤ vec_capacity l.stack;
}
