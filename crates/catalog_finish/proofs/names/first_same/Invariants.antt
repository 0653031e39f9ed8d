use Rattle.std.proofs.Common.{◌≡◌, drop, find}
use Rattle.catalog_finish.specs.Naming.{called, all_called, same_name}
use Rattle.catalog_finish.specs.NameKeys.{picked}
use Rattle.catalog_finish.proofs.names.first_same.Given as goal

abbrev pub invariant-loop-place : goal.invariant-loop-place
invariant-loop-place l =
    find (same_name (called l.named)) (picked (all_called l.items) l.places)
    ≡ find (same_name (called l.named)) (picked (all_called l.items) (drop l.place-index l.places))
