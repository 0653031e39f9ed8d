-- What is left decides.
use Rattle.std.proofs.Common.{◌≡◌}
use Rattle.std.specs.Vec.Iter.{into_iter_items}
use Rattle.class_eval.specs.Chains.{relate_from}
use Rattle.class_eval.proofs.chains.relate_all.Given as goal

abbrev pub invariant-loop-end : goal.invariant-loop-end
invariant-loop-end l =
    relate_from l.fn.first l.fn.ends.items l.line l.here l.fn.world
    ≡ relate_from l.left (into_iter_items l.end-iterator) l.line l.here l.world
