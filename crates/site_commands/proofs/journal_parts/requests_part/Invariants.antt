-- What stands behind the last line is within the bytes that are left.
use Rattle.std.proofs.Common.{◌≡◌, ◌≤◌, true, length}
use Rattle.site_commands.specs.JournalParts.{behind_last}
use Rattle.site_commands.proofs.journal_parts.requests_part.Given as goal

abbrev pub invariant-loop-left : goal.invariant-loop-left
invariant-loop-left l = (behind_last l.begins l.left ≡ behind_last true l.bytes) × (length l.left ≤ length l.bytes)

abbrev pub decreases-loop-left : goal.decreases-loop-left
decreases-loop-left l = length l.left
