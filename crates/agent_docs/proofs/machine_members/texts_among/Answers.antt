use Rattle.std.proofs.Common.{sym, ◌∙◌}
use Rattle.agent_docs.proofs.Chains.{refuses_same, at_exit}
use Rattle.agent_docs.proofs.MemberSteps.{first_of, text_found, text_refused, no_items_left}
use Rattle.agent_docs.proofs.machine_members.texts_among.Goals as goal

pub loop-left-preserved : goal.loop-left-preserved
loop-left-preserved c =
    text_found _ _ _ _ _ _ _ (first_of _ _ c.in-len1-up.len_at_least c.item-item.is) c.len.ensures
    c.in_ok-text.ensures c.in_ok-push.ensures.ok
    ∙ c.loop-left.invariant

pub returns-in_err-text : goal.returns-in_err-text
returns-in_err-text c =
    at_exit _ _ _ _ c.from_residual.ensures.1
    (refuses_same _ _ _ (sym c.loop-left.invariant)
    (text_refused _ _ _ _ _ _ (first_of _ _ c.in-len1-up.len_at_least c.item-item.is) c.len.ensures
    c.in_err-text.ensures))

pub returns : goal.returns
returns c = sym c.loop-left.invariant ∙ no_items_left _ _ c.in_default.len_below
