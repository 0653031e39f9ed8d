-- What is left decides.
use Rattle.std.proofs.Common.{◌≡◌, [], length}
use Rattle.eval_resources.specs.Relating as spec
use Rattle.eval_resources.proofs.relating.declared_operands.Given as goal

abbrev pub invariant-loop-body : goal.invariant-loop-body
invariant-loop-body l = spec.declared_operands l.kind [] l.bodies ≡ spec.declared_operands l.kind l.done l.rest

abbrev pub decreases-loop-body : goal.decreases-loop-body
decreases-loop-body l = length l.rest
