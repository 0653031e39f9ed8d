use Rattle.std.proofs.Common.{◌≡◌, ◌++◌, length}
use Rattle.work_pool.specs.Groups.{gathered, AreOk}
use Rattle.work_pool.proofs.groups.put_together.Given as goal

abbrev pub invariant-loop-part : goal.invariant-loop-part
invariant-loop-part g l = (l.all.items ++ gathered l.parts.items ≡ gathered l.initial.parts.items) × (AreOk l.parts.items → AreOk l.initial.parts.items)

abbrev pub decreases-loop-part : goal.decreases-loop-part
decreases-loop-part g l = length l.parts.items
