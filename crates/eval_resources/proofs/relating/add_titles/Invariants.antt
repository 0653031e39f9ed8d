-- What is left decides.
use Rattle.std.proofs.Common.{◌≡◌, length}
use Rattle.pp_values.specs.Views.{views}
use Rattle.eval_resources.specs.Relating.{body_operands}
use Rattle.eval_resources.proofs.relating.add_titles.Given as goal

abbrev pub invariant-loop-title : goal.invariant-loop-title
invariant-loop-title l =
    body_operands l.kind l.fn.done (views l.titles) ≡ body_operands l.kind l.done (views l.rest)

abbrev pub decreases-loop-title : goal.decreases-loop-title
decreases-loop-title l = length l.rest
