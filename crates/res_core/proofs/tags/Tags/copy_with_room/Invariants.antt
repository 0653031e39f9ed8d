use Rattle.std.proofs.Common.{◌≡◌, take}
use Rattle.res_core.proofs.tags.Tags.copy_with_room.Given as goal

abbrev pub invariant-loop-item : goal.invariant-loop-item
invariant-loop-item l = l.items.items ≡ take l.item-index l.item-items
