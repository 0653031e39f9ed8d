-- What is left decides.
use Rattle.std.proofs.Common.{◌≡◌, [], true, length}
use Rattle.epp_text.specs.TemplateTokens.{tokens_behind}
use Rattle.epp_text.proofs.tokenizing.template_tokens.Given as goal

abbrev pub invariant-loop-rest : goal.invariant-loop-rest
invariant-loop-rest l = tokens_behind true [] l.pieces ≡ tokens_behind l.first l.done l.rest

abbrev pub decreases-loop-rest : goal.decreases-loop-rest
decreases-loop-rest l = length l.rest
