-- What the rest from the index on adds to what is there is what all of it adds.
use Rattle.std.proofs.Common.{◌≡◌, ◌++◌, drop, map}
use Rattle.eval_classes.specs.Included.{reference_to}
use Rattle.eval_classes.proofs.asked.reference_values.Given as goal

abbrev pub invariant-loop-name : goal.invariant-loop-name
invariant-loop-name l =
    l.list ++ map reference_to (drop l.name-index l.names) ≡ map reference_to l.names
