-- What the rest from the index on adds decides.
use Rattle.std.proofs.Common.{◌≡◌, [], drop}
use Rattle.pp_funcs.specs.Lists.{behind}
use Rattle.eval_classes.specs.Included.{names_from}
use Rattle.eval_classes.proofs.asked.names_in.Given as goal

abbrev pub invariant-loop-value : goal.invariant-loop-value
invariant-loop-value l =
    names_from [] (behind l.values) ≡ names_from l.names (behind (drop l.value-index l.values))
