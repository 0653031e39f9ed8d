-- What holds is told by what is left from the index on.
use Rattle.std.proofs.Common.{◌≡◌, drop}
use Rattle.std.specs.Cmp.Lexicographic.{pointwise}
use Rattle.res_core.specs.AttributeViews.{settings}
use Rattle.export_store.specs.Sameness.{same_setting}
use Rattle.export_store.proofs.sameness.have_same.Given as goal

abbrev pub invariant-loop-i : goal.invariant-loop-i
invariant-loop-i l =
    pointwise same_setting (settings l.a) (settings l.b)
    ≡ pointwise same_setting (settings (drop l.i l.a)) (settings (drop l.i l.b))
