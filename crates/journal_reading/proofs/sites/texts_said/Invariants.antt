-- The files that are left, behind those that were found, give what all give.
use Rattle.std.proofs.Common.{◌≡◌, ◌++◌, option_map}
use Rattle.serde_json.specs.View.{members_view}
use Rattle.journal_reading.specs.SiteReading.{texts_said}
use Rattle.journal_reading.proofs.sites.texts_said.Given as goal

abbrev pub invariant-loop-path : goal.invariant-loop-path
invariant-loop-path l =
    option_map (λ after. l.files ++ after) (texts_said (members_view l.path-iterator)) ≡ texts_said (members_view l.members.entries)
