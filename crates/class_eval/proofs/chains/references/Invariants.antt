-- What the rest from the index on adds decides.
use Rattle.std.proofs.Common.{◌≡◌, [], drop}
use Rattle.pp_funcs.specs.Lists.{behind}
use Rattle.class_eval.specs.Chains.{references_from}
use Rattle.class_eval.proofs.chains.references.Given as goal

abbrev pub invariant-loop-value : goal.invariant-loop-value
invariant-loop-value l =
    references_from [] (behind l.values) ≡ references_from l.done (behind (drop l.value-index l.values))
