-- What holds is told by what is left from the index on.
use Rattle.std.proofs.Common.{◌≡◌, drop}
use Rattle.std.specs.Cmp.Lexicographic.{pointwise}
use Rattle.export_store.specs.Sameness.{same_exported}
use Rattle.export_store.proofs.sameness.are_same.Given as goal

abbrev pub invariant-loop-i : goal.invariant-loop-i
invariant-loop-i l = pointwise same_exported l.a l.b ≡ pointwise same_exported (drop l.i l.a) (drop l.i l.b)
