-- The items copied so far are those before the index.
use Rattle.std.proofs.Common.{◌≡◌, take}
use Rattle.pp_values.proofs.places.copy_places.Given as goal

abbrev pub invariant-loop-item : goal.invariant-loop-item
invariant-loop-item l = l.items.items ≡ take l.item-index l.item-items
