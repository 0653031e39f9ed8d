-- Turns stand in the waves, of which there are more each time.
use Rattle.std.proofs.Common.{ℕ, List, ◌+◌, ◌-◌, length}
use Rattle.agent_transaction.specs.declared.planned.Planned.{Planned}
use Rattle.wide_apply.specs.Waves.{IsDivided}
use Rattle.wide_apply.proofs.waves.grow.Given as goal

abbrev pub invariant-loop-alloc : goal.invariant-loop-alloc
invariant-loop-alloc l = (wave : ℕ → ℕ) (tasks : List Planned) → IsDivided wave tasks l.fn.waves.items →
    IsDivided wave tasks l.waves.items

abbrev pub decreases-loop-alloc : goal.decreases-loop-alloc
decreases-loop-alloc l = (l.number + 1) - length l.waves.items
