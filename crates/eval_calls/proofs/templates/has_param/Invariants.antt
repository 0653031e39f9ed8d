-- What is left decides.
use Rattle.std.proofs.Common.{◌≡◌, length}
use Rattle.eval_calls.specs.Templates.{has_param}
use Rattle.eval_calls.proofs.templates.has_param.Given as goal

abbrev pub invariant-loop-param : goal.invariant-loop-param
invariant-loop-param l = has_param l.params l.name ≡ has_param l.rest l.name

abbrev pub decreases-loop-param : goal.decreases-loop-param
decreases-loop-param l = length l.rest
