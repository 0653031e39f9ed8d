-- So many nodes have no target yet.
use Rattle.std.proofs.Common.{◌≡◌, ◌<◌, ℕ, [], length, get_or}
use Rattle.std.specs.declared.vec.Vec.{Vec}
use Rattle.std.specs.declared.alloc.Global.{Global}
use Rattle.agent_marks.proofs.arrows.no_targets.Given as goal

abbrev pub invariant-loop-node : goal.invariant-loop-node
invariant-loop-node l = record {
  long : length l.out.items ≡ l._node;
  none : (u : ℕ) (d : Vec ℕ Global) → u < l._node → (get_or l.out.items u d).items ≡ [];
}
