-- What the places that are left add is what all of them add; the node stays.
use Rattle.std.proofs.Common.{◌≡◌, length}
use Rattle.defined_types.specs.ImportPlaces.{all_placed_at}
use Rattle.defined_types.specs.Rounds.{take_imports}
use Rattle.defined_types.proofs.imports.import_places.Given as goal

abbrev pub invariant-loop-left : goal.invariant-loop-left
invariant-loop-left l =
    (take_imports l.collector l.before (all_placed_at l.sets l.places) l.fn.evaluator.world
    ≡ take_imports l.collector l.added (all_placed_at l.sets l.left) l.evaluator.world)
    × (l.evaluator.node ≡ l.fn.evaluator.node)
    × (l.evaluator.looks ≡ l.fn.evaluator.looks)

abbrev pub decreases-loop-left : goal.decreases-loop-left
decreases-loop-left l = length l.left
