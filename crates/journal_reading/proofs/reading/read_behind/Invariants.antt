-- The entries of the lines that are left, behind those that were read, are those of all lines.
use Rattle.std.proofs.Common.{◌≡◌, ◌+◌, ◌<◌, ◌≤◌, ◌++◌, length}
use denote.Shadow.{shadow}
use denote.Text.{Utf8}
use Rattle.json_documents.specs.LineDocuments.{result_map}
use Rattle.journal_reading.specs.JournalLines.{entries, entries_from}
use Rattle.journal_reading.proofs.reading.read_behind.Given as goal

abbrev pub invariant-loop-line : goal.invariant-loop-line
invariant-loop-line l =
    shadow (Utf8 l.left)
    × (result_map (λ es. l.entries ++ es) (entries_from (entries l.first l.count) l.count l.left)
    ≡ result_map (λ es. l.fn.opened ++ es) (entries_from (entries l.first 1) 1 l.text))
    × (l.count + 2 < 4294967296)
    × (length l.left ≤ length l.text)

abbrev pub decreases-loop-line : goal.decreases-loop-line
decreases-loop-line l = length l.left
