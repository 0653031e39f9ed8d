-- What is there, and what is left of the map, is all of it.
use Rattle.std.proofs.Common.{◌≡◌, ◌++◌}
use Rattle.res_core.specs.AttributeViews.{settings}
use Rattle.eval_classes.proofs.attributes.attributes_from.Given as goal

abbrev pub invariant-loop-entry : goal.invariant-loop-entry
invariant-loop-entry l = settings l.items.items ++ l.entry-iterator ≡ l.fn.set.entries
