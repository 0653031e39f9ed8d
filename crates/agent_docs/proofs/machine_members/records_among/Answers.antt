use Rattle.std.proofs.Common.{sym, ◌∙◌}
use Rattle.agent_docs.proofs.Chains.{refuses_same, at_exit}
use Rattle.agent_docs.proofs.MemberSteps.{record_put, record_refused, no_records_left}
use Rattle.agent_docs.proofs.machine_members.records_among.Goals as goal

pub loop-key-preserved : goal.loop-key-preserved
loop-key-preserved c =
    record_put _ _ _ _ _ _ _ c.in-Some.ensures.steps c.as_str.ensures.value c.in_ok-put_record.ensures
    ∙ c.loop-key.invariant

pub returns-in_err-put_record : goal.returns-in_err-put_record
returns-in_err-put_record c =
    at_exit _ _ _ _ c.from_residual.ensures.1
    (refuses_same _ _ _ (sym c.loop-key.invariant)
    (record_refused _ _ _ _ _ _ _ c.in-Some.ensures.steps c.as_str.ensures.value c.in_err-put_record.ensures))

pub returns : goal.returns
returns c = sym c.loop-key.invariant ∙ no_records_left _ _ c.in-None.ensures.steps.0
