use Rattle.std.proofs.Common.{◌+◌, ◌++◌, ◌∷◌, [], sym, subst, ap, ◌∙◌}
use Rattle.agent_marks.specs.Nodes.{AreArrows}
use Rattle.agent_marks.proofs.ArrowLemmas.{through}
use Rattle.agent_marks.proofs.arrows.put_through.Goals as goal

pub loop-at-preserved : goal.loop-at-preserved
loop-at-preserved c = λ containers edges start.
    subst (AreArrows (c.loop-at.at + 1) containers edges)
    (sym (c.in_ok-push.ensures.items ∙ ap (λ p. c.loop-at.arrows.items ++ p ∷ []) (λ i. (c.begin.ensures i, c.end.ensures i))))
    (through c.loop-at.at containers edges c.loop-at.arrows.items (c.loop-at.invariant containers edges start))
