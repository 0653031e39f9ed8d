-- Each node has the targets of the arrows before the index.
use Rattle.std.proofs.Common.{◌≡◌, ◌<◌, ℕ, length, get_or, take}
use Rattle.std.specs.declared.vec.Vec.{Vec}
use Rattle.std.specs.declared.alloc.Global.{Global}
use Rattle.agent_marks.specs.Nodes.{targets}
use Rattle.agent_marks.proofs.arrows.targets_of.Given as goal

abbrev pub invariant-loop-arrow : goal.invariant-loop-arrow
invariant-loop-arrow l = record {
  long : length l.out.items ≡ l.nodes;
  out : (u : ℕ) (d : Vec ℕ Global) → u < l.nodes → (get_or l.out.items u d).items ≡ targets (take l.arrow-index l.arrows) u;
}
