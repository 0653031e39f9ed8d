-- Each step has the targets of the arrows before the index.
use Rattle.std.proofs.Common.{◌≡◌, ◌<◌, ℕ, length, get_or, take}
use Rattle.std.specs.declared.vec.Vec.{Vec}
use Rattle.std.specs.declared.alloc.Global.{Global}
use Rattle.rel_graph.specs.Releases.{targets}
use Rattle.rel_graph.proofs.arrows.targets_of.Given as goal

abbrev pub invariant-loop-arrow : goal.invariant-loop-arrow
invariant-loop-arrow l = record {
  long : length l.out.items ≡ l.steps;
  out : (u : ℕ) (d : Vec ℕ Global) → u < l.steps → (get_or l.out.items u d).items ≡ targets (take l.arrow-index
      l.arrows) u;
}
