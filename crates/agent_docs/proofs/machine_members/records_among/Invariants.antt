-- The members that are left lead to what all of them lead to.
use Rattle.std.proofs.Common.{◌≡◌, []}
use Rattle.serde_json.specs.View.{members_view}
use Rattle.agent_docs.specs.MachineMembers.{with_records}
use Rattle.agent_docs.proofs.machine_members.records_among.Given as goal

abbrev pub invariant-loop-key : goal.invariant-loop-key
invariant-loop-key l =
    with_records (members_view l.key-iterator) l.state ≡ with_records (members_view l.members.entries) []
