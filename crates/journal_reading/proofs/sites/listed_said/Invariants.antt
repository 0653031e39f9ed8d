-- The nodes that are left, behind those that were found, give what all give.
use Rattle.std.proofs.Common.{◌≡◌, ◌++◌, option_map}
use Rattle.serde_json.specs.View.{members_view}
use Rattle.journal_reading.specs.SiteReading.{listed_said}
use Rattle.journal_reading.proofs.sites.listed_said.Given as goal

abbrev pub invariant-loop-name : goal.invariant-loop-name
invariant-loop-name l =
    option_map (λ after. l.nodes ++ after) (listed_said (members_view l.name-iterator)) ≡ listed_said (members_view l.members.entries)
