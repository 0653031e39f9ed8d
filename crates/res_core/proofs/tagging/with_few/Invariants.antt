use Rattle.std.proofs.Common.{◌≡◌}
use Rattle.std.specs.Vec.Iter.{into_iter_items}
use Rattle.pp_values.specs.Rising.{with_texts}
use Rattle.res_core.proofs.tagging.with_few.Given as goal

abbrev pub invariant-loop-name : goal.invariant-loop-name
invariant-loop-name l = with_texts l.all (into_iter_items l.name-iterator) ≡ with_texts l.fn.tags l.fn.names.items
