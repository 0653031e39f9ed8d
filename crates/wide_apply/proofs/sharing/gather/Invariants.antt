-- The results of the shares that were yielded.
use Rattle.std.proofs.Common.{◌≡◌}
use Rattle.wide_apply.specs.Shares.{gathered, AreOk}
use Rattle.wide_apply.proofs.sharing.gather.Given as goal

abbrev pub invariant-loop-part : goal.invariant-loop-part
invariant-loop-part g l = (l.all.items ≡ gathered l.yielded) × AreOk l.yielded
