-- What was read so far, and what becomes of what is left, is what becomes of all.
use Rattle.std.proofs.Common.{◌≡◌, drop}
use Rattle.serde_json.specs.View.{items_view, members_view}
use Rattle.json_values.specs.Forms.{values_of, members_of}
use Rattle.json_values.proofs.Items.{list_so_far, hash_so_far}
use Rattle.json_values.proofs.reading.+reading.Given as goal

abbrev pub invariant-values_of-loop-item : goal.invariant-values_of-loop-item
invariant-values_of-loop-item l = list_so_far l.values.items (values_of (items_view (drop l.item-index l.item-items))) ≡ values_of (items_view l.item-items)

abbrev pub invariant-members_of-loop-name : goal.invariant-members_of-loop-name
invariant-members_of-loop-name l = hash_so_far l.pairs.items (members_of (members_view l.name-iterator)) ≡ members_of (members_view l.members.entries)
