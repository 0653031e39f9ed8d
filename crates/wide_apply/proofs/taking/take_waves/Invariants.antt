-- The waves that were yielded are done.
use Rattle.std.proofs.Common.{◌≡◌, ◌++◌, length}
use Rattle.agent_marks.specs.Spreads.{IsNew}
use Rattle.wide_apply.specs.Going.{Related, comes, leads, tasks_in, Going}
use Rattle.wide_apply.proofs.taking.take_waves.Given as goal

abbrev pub invariant-loop-wave : goal.invariant-loop-wave
invariant-loop-wave g l = record {
  all : l.yielded ++ l.wave-iterator.rest.items ≡ l.fn.waves.items;
  long : length l.slots.items ≡ l.count;
  in_blocked : l.blocked.count ≡ l.count;
  in_signalled : l.signalled.count ≡ l.count;
  going : (r : Related) → IsNew l.count (comes r) l.fn.blocked → IsNew l.count (leads r) l.fn.signalled →
      Going r (tasks_in l.fn.waves.items) (tasks_in l.wave-iterator.rest.items) l.slots.items l.blocked l.signalled
      (g.W.Machine.state l.fn.machine) (g.W.Machine.state l.machine);
}
