-- What was counted, and what is left, is the whole.
use Rattle.std.proofs.Common.{◌≡◌, ◌+◌, length}
use Rattle.command_outputs.specs.Demo.{served_in_all}
use Rattle.command_outputs.proofs.demo.count_served.Given as goal

abbrev pub invariant-loop-left : goal.invariant-loop-left
invariant-loop-left l = l.count + served_in_all l.left ≡ served_in_all l.replies

abbrev pub decreases-loop-left : goal.decreases-loop-left
decreases-loop-left l = length l.left
