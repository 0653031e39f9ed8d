-- What was written and the lines that are left are the lines of all.
use Rattle.std.proofs.Common.{◌≡◌, ◌++◌, length, string_bytes}
use Rattle.site_commands.specs.Serving.{end_lines}
use Rattle.site_commands.proofs.end_lines.write_ends.Given as goal

abbrev pub invariant-loop-left : goal.invariant-loop-left
invariant-loop-left l =
    string_bytes l.out ++ end_lines l.number l.left ≡ string_bytes l.fn.out ++ end_lines 1 l.ends

abbrev pub decreases-loop-left : goal.decreases-loop-left
decreases-loop-left l = length l.left
