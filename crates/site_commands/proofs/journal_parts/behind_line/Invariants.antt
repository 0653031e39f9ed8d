-- What stands behind the first line feed is within the bytes that are left.
use Rattle.std.proofs.Common.{◌≡◌, ◌≤◌, length}
use Rattle.site_commands.specs.JournalParts.{behind_line}
use Rattle.site_commands.proofs.journal_parts.behind_line.Given as goal

abbrev pub invariant-loop-left : goal.invariant-loop-left
invariant-loop-left l = (behind_line l.left ≡ behind_line l.bytes) × (length l.left ≤ length l.bytes)

abbrev pub decreases-loop-left : goal.decreases-loop-left
decreases-loop-left l = length l.left
