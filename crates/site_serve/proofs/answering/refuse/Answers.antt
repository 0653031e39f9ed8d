use Rattle.std.proofs.Common.{◌≡◌, rules}
use Rattle.site_serve.proofs.Responding.{not_answered, no_response, was_answered, answer_failed, answer_stopped}
use Rattle.site_serve.proofs.answering.refuse.Goals as goal

pub returns-in-Ok-None : goal.returns-in-Ok-None
returns-in-Ok-None g c = not_answered _ _ _ _ c.in-Ok-None.ensures c.in-Ok-None.field-0-is

pub returns-in-Err : goal.returns-in-Err
returns-in-Err g c = no_response c.args.why c.args.offset _

pub returns-in-Ok : goal.returns-in-Ok
returns-in-Ok g c = was_answered _ _ _ _ _ _ c.in-Ok-Some.ensures c.in-Ok-Some.field-0-is c.in-Ok.ensures

pub returns-in-Err-WriteFault : goal.returns-in-Err-WriteFault
returns-in-Err-WriteFault g c =
    answer_failed _ _ _ c.args.offset _ _ c.in-Ok-Some.ensures c.in-Ok-Some.field-0-is _ c.in-Err-WriteFault.field-0-is
    c.in-Err-WriteFault.ensures

pub returns : goal.returns
returns g c =
    answer_stopped _ _ _ c.args.offset _ _ c.in-Ok-Some.ensures c.in-Ok-Some.field-0-is _ c.in-Err-Memory.field-0-is
    c.in-Err-Memory.ensures
