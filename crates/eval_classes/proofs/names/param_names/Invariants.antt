-- What the rest from the index on adds to what is there is what all of it adds.
use Rattle.std.proofs.Common.{◌≡◌, ◌++◌, drop}
use Rattle.eval_classes.specs.Definitions.{param_names}
use Rattle.eval_classes.proofs.names.param_names.Given as goal

abbrev pub invariant-loop-param : goal.invariant-loop-param
invariant-loop-param l = l.names.items ++ param_names (drop l.param-index l.params) ≡ param_names l.params
