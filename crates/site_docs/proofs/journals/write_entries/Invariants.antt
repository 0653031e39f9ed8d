use Rattle.std.proofs.Common.{◌≡◌, ◌++◌, drop, string_bytes}
use Rattle.site_core.specs.EntryViews.{events_of}
use Rattle.site_docs.specs.JournalText.{entry_lines}
use Rattle.site_docs.proofs.journals.write_entries.Given as goal

abbrev pub invariant-loop-number : goal.invariant-loop-number
invariant-loop-number l =
    string_bytes l.out ++ entry_lines l.number (events_of (drop l.number l.entries)) ≡ string_bytes l.initial.out ++
    entry_lines 0 (events_of l.entries)
