use Rattle.std.proofs.Common.{sym, ◌∙◌}
use Rattle.pp_lexer.proofs.EscapeLemmas.{says_itself}
use Rattle.pp_lexer.proofs.escapes.said.Goals as goal

pub returns-else-contains : goal.returns-else-contains
returns-else-contains c = rw (says_itself c.args.quotes c.args.spelling.now (rw c.as_bytes.ensures.value at (sym c.contains.ensures.value ∙ c.if-contains.false))) c.from_str.ensures
