-- What was made so far, and what becomes of what is left, is what becomes of all; what was made are facts.
use Rattle.std.proofs.Common.{◌≡◌, IsTrue, drop}
use Rattle.serde_json.specs.View.{items_view, members_view}
use Rattle.pp_values.specs.Datum.{data_of}
use Rattle.pp_values.specs.Facts.{are_members}
use Rattle.pp_values.specs.Views.{views}
use Rattle.json_values.specs.FromData.{item_values, member_values}
use Rattle.json_values.proofs.Items.{list_so_far, hash_so_far}
use Rattle.json_values.proofs.DataSteps.{have_facts}
use Rattle.json_values.proofs.data.+data.Given as goal

abbrev pub invariant-item_values-loop-item : goal.invariant-item_values-loop-item
invariant-item_values-loop-item l =
    (list_so_far l.values.items (item_values l.mode (items_view (drop l.item-index l.item-items))) ≡ item_values l.mode (items_view l.item-items))
    × IsTrue (are_members (data_of (views l.values.items)))

abbrev pub invariant-member_values-loop-name : goal.invariant-member_values-loop-name
invariant-member_values-loop-name l =
    (hash_so_far l.pairs.items (member_values l.mode (members_view l.name-iterator)) ≡ member_values l.mode (members_view l.members.entries))
    × IsTrue (have_facts l.pairs.items)
