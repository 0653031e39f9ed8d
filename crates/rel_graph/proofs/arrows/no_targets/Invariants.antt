-- So many steps have no target yet.
use Rattle.std.proofs.Common.{◌≡◌, ◌<◌, ℕ, [], length, get_or}
use Rattle.std.specs.declared.vec.Vec.{Vec}
use Rattle.std.specs.declared.alloc.Global.{Global}
use Rattle.rel_graph.proofs.arrows.no_targets.Given as goal

abbrev pub invariant-loop-step : goal.invariant-loop-step
invariant-loop-step l = record {
  long : length l.out.items ≡ l._step;
  none : (u : ℕ) (d : Vec ℕ Global) → u < l._step → (get_or l.out.items u d).items ≡ [];
}
