-- What the rest from the index on adds decides.
use Rattle.std.proofs.Common.{◌≡◌, drop}
use Rattle.pp_funcs.specs.Lists.{behind}
use Rattle.eval_calls.specs.Realizing.{references_from}
use Rattle.eval_calls.proofs.realizing.with_references.Given as goal

abbrev pub invariant-loop-value : goal.invariant-loop-value
invariant-loop-value l =
    references_from l.fn.done (behind l.values) ≡ references_from l.done (behind (drop l.value-index l.values))
