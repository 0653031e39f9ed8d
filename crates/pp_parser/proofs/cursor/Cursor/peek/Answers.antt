use Rattle.pp_parser.specs.Input.{kind}
use Rattle.pp_parser.proofs.Nexts.{kind_some}
use Rattle.pp_parser.proofs.cursor.Cursor.peek.Goals as goal

pub returns-in-Some : goal.returns-in-Some
unfolding kind
returns-in-Some c = rw (← c.self.view_is) (kind_some c.self.inside.left c.in-Some.token.now c.kind.result c.kind.ensures c.in-Some.ensures)
