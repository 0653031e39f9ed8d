-- What is left tells what all of it tells.
use Rattle.std.proofs.Common.{◌≡◌, drop}
use Rattle.serde_json.specs.View.{items_view, members_view}
use Rattle.hiera_config.specs.SoundData.{are_sound_items, are_sound_members}
use Rattle.hiera_config.proofs.soundness.+sound.Given as goal

abbrev pub invariant-are_sound_items-loop-item : goal.invariant-are_sound_items-loop-item
invariant-are_sound_items-loop-item l =
    are_sound_items (items_view (drop l.item-index l.item-items)) ≡ are_sound_items (items_view l.item-items)

abbrev pub invariant-are_sound_members-loop-member : goal.invariant-are_sound_members-loop-member
invariant-are_sound_members-loop-member l =
    are_sound_members (members_view l.member-iterator) ≡ are_sound_members (members_view l.members.entries)
