use Rattle.site_commands.proofs.Journals.{asked_behind, part_wrong}
use Rattle.site_commands.proofs.asking_input.parse_asking.Goals as goal

pub returns-in-Ok-clause-read : goal.returns-in-Ok-clause-read
returns-in-Ok-clause-read c = asked_behind c.with_requests.result c.in-Ok.history.entries c.args.bytes.now
    c.requests_part-behind.result.now c.front_of.result.now c.requests_part-behind.ensures.part c.front_of.ensures
    c.in-Ok.ensures.read c.with_requests.ensures.read

pub returns-in-Err-clause-read : goal.returns-in-Err-clause-read
returns-in-Err-clause-read c = part_wrong c.in-Err.stop c.args.bytes.now c.requests_part-behind.result.now
    c.front_of.result.now c.requests_part-behind.ensures.part c.front_of.ensures c.in-Err.ensures.read
