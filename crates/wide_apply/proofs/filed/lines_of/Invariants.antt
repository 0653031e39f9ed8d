-- The lines of the slots that were yielded.
use Rattle.std.proofs.Common.{◌≡◌, ◌++◌}
use Rattle.wide_apply.proofs.FiledLemmas.{slot_lines}
use Rattle.wide_apply.proofs.filed.lines_of.Given as goal

abbrev pub invariant-loop-slot : goal.invariant-loop-slot
invariant-loop-slot l = record {
  all : l.yielded ++ l.slot-iterator.rest.items ≡ l.fn.slots.items;
  lines : l.lines.items ≡ slot_lines l.yielded;
}
