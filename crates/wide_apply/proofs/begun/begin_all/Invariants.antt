-- The turns that were yielded are begun, and the machine is as it was.
use Rattle.std.proofs.Common.{◌≡◌}
use Rattle.std.specs.List.{AllZip}
use Rattle.wide_apply.specs.Apart.{Begins}
use Rattle.wide_apply.proofs.begun.begin_all.Given as goal

abbrev pub invariant-loop-planned : goal.invariant-loop-planned
invariant-loop-planned g l = record {
  begins : AllZip (Begins g.W.Part.Machine.state l.blocked l.signalled (g.W.Machine.state l.fn.machine)) l.yielded
      l.turns.items;
  same : g.W.Machine.state l.machine ≡ g.W.Machine.state l.fn.machine;
}
