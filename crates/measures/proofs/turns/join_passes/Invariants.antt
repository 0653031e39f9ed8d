use Rattle.std.proofs.Common.{◌-◌, ◌≤◌, length, All}
use Rattle.hist_lock.specs.Held.{IsShare}
use Rattle.measures.proofs.turns.join_passes.Given as goal

abbrev pub invariant-loop-pass : goal.invariant-loop-pass
invariant-loop-pass l = (length l.passes.items ≤ 64) × IsShare l.lock (65536 - length l.passes.items) l.first × All (IsShare l.lock 1) l.passes.items

abbrev pub decreases-loop-pass : goal.decreases-loop-pass
decreases-loop-pass l = length l.passes.items
