-- The items that are left lead to what all of them lead to.
use Rattle.std.proofs.Common.{◌≡◌, [], length}
use Rattle.serde_json.specs.View.{items_view}
use Rattle.agent_docs.specs.MachineMembers.{texts_from}
use Rattle.agent_docs.proofs.machine_members.texts_among.Given as goal

abbrev pub invariant-loop-left : goal.invariant-loop-left
invariant-loop-left l = texts_from l.found (items_view l.left) ≡ texts_from [] (items_view l.items)

abbrev pub decreases-loop-left : goal.decreases-loop-left
decreases-loop-left l = length l.left
