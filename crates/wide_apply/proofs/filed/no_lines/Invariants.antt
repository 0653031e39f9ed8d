-- So many resources have no line yet.
use Rattle.std.proofs.Common.{◌≡◌, ◌<◌, ℕ, [], length, get_or}
use Rattle.std.specs.declared.alloc.Global.{Global}
use Rattle.std.specs.declared.vec.Vec.{Vec}
use Rattle.agent_machine.specs.declared.report_line.ReportLine.{ReportLine}
use Rattle.wide_apply.proofs.filed.no_lines.Given as goal

abbrev pub invariant-loop-at : goal.invariant-loop-at
invariant-loop-at l = record {
  long : length l.slots.items ≡ l._at;
  none : (k : ℕ) (d : Vec ReportLine Global) → k < length l.slots.items → (get_or l.slots.items k d).items ≡ [];
}
