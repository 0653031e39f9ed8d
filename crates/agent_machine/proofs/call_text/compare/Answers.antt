use Rattle.std.proofs.Common.{◌∙◌}
use Rattle.agent_machine.specs.CallTexts.{pieces_text}
use Rattle.agent_machine.proofs.CallLemmas.{met_all, met_apart, shorter, as_long}
use Rattle.agent_machine.proofs.call_text.compare.Goals as goal

pub returns-in-Ok-empty : goal.returns-in-Ok-empty
returns-in-Ok-empty c =
    as_long c.in-Ok-empty.field-0.now c.in-Ok-empty.len_below
    ∙ met_all (pieces_text c.args.text.now) c.args.key.now c.as_bytes.result.now
    (c.as_bytes.ensures.value ∙ c.as_str.ensures.text) c.in-Ok-empty.field-0.now c.in-Ok-empty.ensures

pub returns-in-Ok-len1-up : goal.returns-in-Ok-len1-up
returns-in-Ok-len1-up c =
    shorter c.in-Ok-len1-up.field-0.now c.in-Ok-len1-up.len_at_least
    ∙ met_all (pieces_text c.args.text.now) c.args.key.now c.as_bytes.result.now
    (c.as_bytes.ensures.value ∙ c.as_str.ensures.text) c.in-Ok-len1-up.field-0.now c.in-Ok-len1-up.ensures

pub returns-in-Err : goal.returns-in-Err
returns-in-Err c =
    met_apart (pieces_text c.args.text.now) c.args.key.now c.as_bytes.result.now
    (c.as_bytes.ensures.value ∙ c.as_str.ensures.text) c.in-Err.order c.in-Err.ensures
