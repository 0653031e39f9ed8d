-- The parts that were yielded have come back.
use Rattle.std.proofs.Common.{◌≡◌, ◌++◌}
use Rattle.wide_apply.specs.Apart.{TakesAllBack}
use Rattle.wide_apply.proofs.taking.give_back.Given as goal

abbrev pub invariant-loop-back : goal.invariant-loop-back
invariant-loop-back g l = record {
  all : l.yielded ++ l.back-iterator.rest.items ≡ l.fn.backs.items;
  back : TakesAllBack g.W.Part.Machine.state l.yielded (g.W.Machine.state l.fn.machine) (g.W.Machine.state l.machine);
}
