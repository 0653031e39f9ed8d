use Rattle.std.proofs.Common.{sym, ◌∙◌}
use Rattle.site_bundle.proofs.Chains.{refuses_same, at_exit}
use Rattle.site_bundle.proofs.RequestSteps.{first_of, request_found, request_refused, no_items_left}
use Rattle.site_bundle.proofs.requests.asked_from.Goals as goal

pub loop-left-preserved : goal.loop-left-preserved
loop-left-preserved c =
    request_found _ _ _ _ _ _ _ (first_of _ _ c.in-len1-up.len_at_least c.item-item.is) c.len.ensures
    c.in_ok-request.ensures c.in_ok-push.ensures
    ∙ c.loop-left.invariant

pub returns-in_err-request : goal.returns-in_err-request
returns-in_err-request c =
    at_exit _ _ _ _ c.from_residual.ensures.1
    (refuses_same _ _ _ (sym c.loop-left.invariant)
    (request_refused _ _ _ _ _ _ (first_of _ _ c.in-len1-up.len_at_least c.item-item.is) c.len.ensures
    c.in_err-request.ensures))

pub returns : goal.returns
returns c = sym c.loop-left.invariant ∙ no_items_left _ _ c.in_default.len_below
