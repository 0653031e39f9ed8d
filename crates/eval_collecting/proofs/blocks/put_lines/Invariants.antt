-- What the lines that are left do is what all of them do.
use Rattle.std.proofs.Common.{◌≡◌, length}
use Rattle.res_core.specs.Lines.{lines_of}
use Rattle.eval_collecting.specs.Blocks.{lines_added, lines_on}
use Rattle.eval_collecting.proofs.blocks.put_lines.Given as goal

abbrev pub invariant-loop-left : goal.invariant-loop-left
invariant-loop-left l =
    lines_added l.book (lines_on l.target (lines_of l.lines)) l.fn.overrides
    ≡ lines_added l.book (lines_on l.target (lines_of l.left)) l.overrides

abbrev pub decreases-loop-left : goal.decreases-loop-left
decreases-loop-left l = length l.left
