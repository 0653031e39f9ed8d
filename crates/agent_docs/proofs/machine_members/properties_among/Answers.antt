use Rattle.std.proofs.Common.{sym, ◌∙◌}
use Rattle.agent_docs.proofs.Chains.{refuses_same, at_exit}
use Rattle.agent_docs.proofs.MemberSteps.{property_put, property_refused, no_properties_left}
use Rattle.agent_docs.proofs.machine_members.properties_among.Goals as goal

pub loop-name-preserved : goal.loop-name-preserved
loop-name-preserved c =
    property_put _ _ _ _ _ _ _ _ c.in-Some.ensures.steps c.as_str.ensures.value c.in_ok-put_property.ensures
    ∙ c.loop-name.invariant

pub returns-in_err-put_property : goal.returns-in_err-put_property
returns-in_err-put_property c =
    at_exit _ _ _ _ c.from_residual.ensures.1
    (refuses_same _ _ _ (sym c.loop-name.invariant)
    (property_refused _ _ _ _ _ _ _ _ c.in-Some.ensures.steps c.as_str.ensures.value c.in_err-put_property.ensures))

pub returns : goal.returns
returns c = sym c.loop-name.invariant ∙ no_properties_left _ _ _ c.in-None.ensures.steps.0
