use Rattle.std.proofs.Common.{◌≡◌, ◌≤◌, ◌+◌, ◌*◌, arith, rules}
use Rattle.site_serve.proofs.Talking.{read_one, read_none, read_stopped, write_stopped, begun, ended, read_failed, no_memory, refused_at, unanswered, write_failed, not_written, closed, answered_one, enough, read_promptly, refused_promptly, written_promptly, begun_promptly, lost_promptly, served_promptly}
use Rattle.site_serve.proofs.serving.answer_all.Goals as goal

pub loop-answered-init : goal.loop-answered-init
loop-answered-init g c =
    (c.requires, omega arith, rw c.new-rest.ensures (begun _ _ _ _ _ c.keeps.ensures.legal c.keeps.ensures.few))

pub returns-in-Ok-None-clause-ends : goal.returns-in-Ok-None-clause-ends
returns-in-Ok-None-clause-ends g c =
    let x = read_none _ _ _ _ _ c.in-Ok-None.field-0-is c.in-Ok-None.ensures in
    ended _ _ _ _ _ _ _ _ _ _ c.loop-answered.invariant.2 c.loop-answered-test.true _ _ x.0 x.1 x.2

pub returns-in_default-clause-ends : goal.returns-in_default-clause-ends
returns-in_default-clause-ends g c =
    let x = read_one _ _ _ _ _ _ c.in-Ok-Some.field-0-is c.in-Ok-Some.ensures in
    unanswered _ _ _ _ _ _ _ _ _ _ c.loop-answered.invariant.2 c.loop-answered-test.true _ _ x.1 _ _ x.2
    _ c.keeps-in-Ok-Some.ensures.few c.in_default.field-0 c.in_default.ensures

pub returns-in-Err-WriteFault-clause-ends : goal.returns-in-Err-WriteFault-clause-ends
returns-in-Err-WriteFault-clause-ends g c =
    let x = read_one _ _ _ _ _ _ c.in-Ok-Some.field-0-is c.in-Ok-Some.ensures in
    let w = write_stopped _ _ _ _ _ c.in-Err-WriteFault.field-0-is c.in-Err-WriteFault.ensures in
    write_failed _ _ _ _ _ _ _ _ _ _ c.loop-answered.invariant.2 c.loop-answered-test.true _ _ x.1 _ _
    x.2 _ c.keeps-in-Ok-Some.ensures.few (Unit {0}) _ c.in-Ok.ensures _ w.0 w.1

pub returns-in-Err-Memory-write_response-clause-ends : goal.returns-in-Err-Memory-write_response-clause-ends
returns-in-Err-Memory-write_response-clause-ends g c =
    let x = read_one _ _ _ _ _ _ c.in-Ok-Some.field-0-is c.in-Ok-Some.ensures in
    let w = write_stopped _ _ _ _ _ c.in-Err-Memory-write_response.field-0-is c.in-Err-Memory-write_response.ensures in
    not_written _ _ _ _ _ _ _ _ _ _ c.loop-answered.invariant.2 c.loop-answered-test.true _ _ x.1 _ _
    x.2 _ c.keeps-in-Ok-Some.ensures.few (Unit {0}) _ c.in-Ok.ensures _ w

pub returns-then-request-clause-ends : goal.returns-then-request-clause-ends
returns-then-request-clause-ends g c =
    let x = read_one _ _ _ _ _ _ c.in-Ok-Some.field-0-is c.in-Ok-Some.ensures in
    closed _ _ _ _ _ _ _ _ _ _ c.loop-answered.invariant.2 c.loop-answered-test.true _ _ x.1 _ _ x.2
    _ c.keeps-in-Ok-Some.ensures.few (Unit {0}) _ c.in-Ok.ensures _ c.in-Ok-write_response.ensures c.if-request.true

pub returns-in-Err-Bad-clause-ends : goal.returns-in-Err-Bad-clause-ends
returns-in-Err-Bad-clause-ends g c =
    let x = read_stopped _ _ _ _ _ _ c.in-Err-Bad.field-0-is c.in-Err-Bad.ensures in
    refused_at _ _ _ _ _ _ _ _ _ _ c.loop-answered.invariant.2 c.loop-answered-test.true _ _ x.0 _ _ _ x.1
    c.refuse.ensures

pub returns-in-Err-ReadFault-clause-ends : goal.returns-in-Err-ReadFault-clause-ends
returns-in-Err-ReadFault-clause-ends g c =
    let x = read_stopped _ _ _ _ _ _ c.in-Err-ReadFault.field-0-is c.in-Err-ReadFault.ensures in
    read_failed _ _ _ _ _ _ _ _ _ _ c.loop-answered.invariant.2 c.loop-answered-test.true _ _ x.0 x.1 x.2

pub returns-in-Err-Memory-clause-ends : goal.returns-in-Err-Memory-clause-ends
returns-in-Err-Memory-clause-ends g c =
    let x = read_stopped _ _ _ _ _ _ c.in-Err-Memory.field-0-is c.in-Err-Memory.ensures in
    no_memory _ _ _ _ _ _ _ _ _ _ c.loop-answered.invariant.2 c.loop-answered-test.true x.0 _ x.1

pub loop-answered-preserved : goal.loop-answered-preserved
loop-answered-preserved g c =
    let x = read_one _ _ _ _ _ _ c.in-Ok-Some.field-0-is c.in-Ok-Some.ensures in (
      search rules,
      search rules,
      answered_one _ _ _ _ _ _ _ _ _ _ c.loop-answered.invariant.2
          c.loop-answered-test.true _ _ x.1 _ _ x.2 _ c.keeps-in-Ok-Some.ensures.few (Unit {0}) _
          c.in-Ok.ensures _ c.in-Ok-write_response.ensures c.if-request.false,
    )

pub returns-clause-ends : goal.returns-clause-ends
returns-clause-ends g c =
    enough _ _ _ _ _ _ _ _ _ _ c.loop-answered.invariant.2
    (omega (arith, c.loop-answered-test.false, c.loop-answered.auto))

-- ---- in order

pub returns-in-Ok-None-clause-prompt : goal.returns-in-Ok-None-clause-prompt
returns-in-Ok-None-clause-prompt g c =
    let x = read_none _ _ _ _ _ c.in-Ok-None.field-0-is c.in-Ok-None.ensures in
    read_promptly _ _ _ _ _ _ _ _ _ _ c.loop-answered.invariant.2 c.loop-answered-test.true _ _ x.0

pub returns-in_default-clause-prompt : goal.returns-in_default-clause-prompt
returns-in_default-clause-prompt g c =
    let x = read_one _ _ _ _ _ _ c.in-Ok-Some.field-0-is c.in-Ok-Some.ensures in
    read_promptly _ _ _ _ _ _ _ _ _ _ c.loop-answered.invariant.2 c.loop-answered-test.true _ _ x.1

pub returns-in-Err-WriteFault-clause-prompt : goal.returns-in-Err-WriteFault-clause-prompt
returns-in-Err-WriteFault-clause-prompt g c =
    let x = read_one _ _ _ _ _ _ c.in-Ok-Some.field-0-is c.in-Ok-Some.ensures in
    let w = write_stopped _ _ _ _ _ c.in-Err-WriteFault.field-0-is c.in-Err-WriteFault.ensures in
    begun_promptly _ _ _ _ _ _ _ _ _ _ c.loop-answered.invariant.2 c.loop-answered-test.true _ _ x.1 _ _ w.0

pub returns-in-Err-Memory-write_response-clause-prompt : goal.returns-in-Err-Memory-write_response-clause-prompt
returns-in-Err-Memory-write_response-clause-prompt g c =
    let x = read_one _ _ _ _ _ _ c.in-Ok-Some.field-0-is c.in-Ok-Some.ensures in
    let w = write_stopped _ _ _ _ _ c.in-Err-Memory-write_response.field-0-is c.in-Err-Memory-write_response.ensures in
    begun_promptly _ _ _ _ _ _ _ _ _ _ c.loop-answered.invariant.2 c.loop-answered-test.true _ _ x.1 _ _ w

pub returns-then-request-clause-prompt : goal.returns-then-request-clause-prompt
returns-then-request-clause-prompt g c =
    let x = read_one _ _ _ _ _ _ c.in-Ok-Some.field-0-is c.in-Ok-Some.ensures in
    written_promptly _ _ _ _ _ _ _ _ _ _ c.loop-answered.invariant.2 c.loop-answered-test.true _ _ x.1 _ _
    c.in-Ok-write_response.ensures

pub returns-in-Err-Bad-clause-prompt : goal.returns-in-Err-Bad-clause-prompt
returns-in-Err-Bad-clause-prompt g c =
    let x = read_stopped _ _ _ _ _ _ c.in-Err-Bad.field-0-is c.in-Err-Bad.ensures in
    refused_promptly _ _ _ _ _ _ _ _ _ _ c.loop-answered.invariant.2 c.loop-answered-test.true _ _ x.0 _ _ _ _
    c.refuse.ensures

pub returns-in-Err-ReadFault-clause-prompt : goal.returns-in-Err-ReadFault-clause-prompt
returns-in-Err-ReadFault-clause-prompt g c =
    let x = read_stopped _ _ _ _ _ _ c.in-Err-ReadFault.field-0-is c.in-Err-ReadFault.ensures in
    read_promptly _ _ _ _ _ _ _ _ _ _ c.loop-answered.invariant.2 c.loop-answered-test.true _ _ x.0

pub returns-in-Err-Memory-clause-prompt : goal.returns-in-Err-Memory-clause-prompt
returns-in-Err-Memory-clause-prompt g c =
    let x = read_stopped _ _ _ _ _ _ c.in-Err-Memory.field-0-is c.in-Err-Memory.ensures in
    lost_promptly _ _ _ _ _ _ _ _ _ _ c.loop-answered.invariant.2 c.loop-answered-test.true _ x

pub returns-clause-prompt : goal.returns-clause-prompt
returns-clause-prompt g c = served_promptly _ _ _ _ _ _ _ _ _ _ c.loop-answered.invariant.2
