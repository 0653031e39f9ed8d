use Rattle.std.proofs.Common.{true, false, [], ◌∷◌, ◌++◌, set, sym, subst, ◌∙◌}
use Rattle.std.proofs.lemmas.List.{get_or_default}
use Rattle.agent_marks.specs.Nodes.{Pushing}
use Rattle.agent_marks.proofs.SpreadLemmas.{pushing_kept, pushing_new}
use Rattle.agent_marks.proofs.spreading.mark.Goals as goal

pub returns-then-not-index-clause-marks : goal.returns-then-not-index-clause-marks
returns-then-not-index-clause-marks c = λ before targets old p.
    let marks = c.args.marks.now.items in
    subst (λ s. Pushing old before (targets ++ c.args.node ∷ []) (set marks c.args.node true) s) (sym c.push_ready.ensures.items)
    (pushing_new old before targets marks c.args.stack.now.items c.args.node p c.requires.within
    (get_or_default marks c.args.node false c.index.result.now c.requires.within ∙ sym c.index.ensures ∙ c.if-not-index.true))

pub returns-else-not-index-clause-marks : goal.returns-else-not-index-clause-marks
returns-else-not-index-clause-marks c = λ before targets old p.
    let marks = c.args.marks.now.items in
    pushing_kept old before targets marks c.args.stack.now.items c.args.node p
    (get_or_default marks c.args.node false c.index.result.now c.requires.within ∙ sym c.index.ensures ∙ c.if-not-index.false)
