use Rattle.std.proofs.Common.{arith}
use Rattle.http_wire.proofs.Deciding.{bad_length, too_large}
use Rattle.http_wire.proofs.reading.read_behind.Goals as goal

pub returns-in-None : goal.returns-in-None
returns-in-None g c = bad_length _ _ c.args.head c.requires c.in-None.is

pub returns-then-count-gt-MOST_BODY : goal.returns-then-count-gt-MOST_BODY
returns-then-count-gt-MOST_BODY g c = too_large _ _ c.args.head c.in-Some.count c.requires c.in-Some.is (omega arith)
