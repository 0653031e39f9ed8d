-- What is left decides.
use Rattle.std.proofs.Common.{◌≡◌, length}
use Rattle.epp_text.specs.TemplateTokens.{open_behind}
use Rattle.epp_text.proofs.tokenizing.open_behind.Given as goal

abbrev pub invariant-loop-rest : goal.invariant-loop-rest
invariant-loop-rest l = open_behind 0 l.tokens ≡ open_behind l.count l.rest

abbrev pub decreases-loop-rest : goal.decreases-loop-rest
decreases-loop-rest l = length l.rest
