-- What was written, and the lines of the faults that are left, are those of all.
use Rattle.std.proofs.Common.{◌≡◌, ◌++◌, length, map, string_bytes}
use Rattle.command_outputs.specs.Checks.{fault_lines}
use Rattle.command_outputs.proofs.check.write_faults.Given as goal

abbrev pub invariant-loop-left : goal.invariant-loop-left
invariant-loop-left l =
    string_bytes l.out ++ fault_lines (map (λ f. f.now) l.left) ≡ string_bytes l.fn.out ++
    fault_lines (map (λ f. f.now) l.faults)

abbrev pub decreases-loop-left : goal.decreases-loop-left
decreases-loop-left l = length l.left
