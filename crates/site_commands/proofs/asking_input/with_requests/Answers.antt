use Rattle.site_commands.proofs.Journals.{both_read, none_read}
use Rattle.site_commands.proofs.asking_input.with_requests.Goals as goal

pub returns-in-Ok-clause-read : goal.returns-in-Ok-clause-read
returns-in-Ok-clause-read c = λ all journal is. both_read c.args.history c.in-Ok.requests c.args.bytes.now all journal is
    c.in-Ok.ensures.requests

pub returns-in-Err-clause-read : goal.returns-in-Err-clause-read
returns-in-Err-clause-read c = λ all journal is. none_read c.in-Err.why c.args.history.entries c.args.bytes.now all journal
    is c.in-Err.ensures.requests
