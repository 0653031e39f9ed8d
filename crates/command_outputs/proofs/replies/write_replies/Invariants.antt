-- What was written and the lines that are left are the lines of all.
use Rattle.std.proofs.Common.{◌≡◌, ◌≤◌, ◌+◌, ◌++◌, length, string_bytes}
use Rattle.res_core.specs.RequestViews.{all_asked}
use Rattle.site_bundle.specs.declared.limits.TheConstants.{MOST_REQUESTS}
use Rattle.command_outputs.specs.Outputs.{reply_lines}
use Rattle.command_outputs.proofs.replies.write_replies.Given as goal

abbrev pub invariant-loop-asked : goal.invariant-loop-asked
invariant-loop-asked l =
    (string_bytes l.out ++ reply_lines l.number (all_asked l.asked) l.left ≡ string_bytes l.fn.out ++
    reply_lines 0 (all_asked l.requests) l.replies)
    × (l.number + length l.asked ≤ MOST_REQUESTS)

abbrev pub decreases-loop-asked : goal.decreases-loop-asked
decreases-loop-asked l = length l.asked
