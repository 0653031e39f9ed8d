-- The members that are left lead to what all of them lead to.
use Rattle.std.proofs.Common.{◌≡◌, []}
use Rattle.serde_json.specs.View.{members_view}
use Rattle.agent_docs.specs.MachineMembers.{with_properties}
use Rattle.agent_docs.proofs.machine_members.properties_among.Given as goal

abbrev pub invariant-loop-name : goal.invariant-loop-name
invariant-loop-name l =
    with_properties l.key (members_view l.name-iterator) l.properties ≡ with_properties l.key (members_view l.members.entries) []
