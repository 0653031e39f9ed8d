use Rattle.pp_lexer.proofs.MarkLemmas.{mark_is_piece}
use Rattle.pp_lexer.proofs.marks.found_mark.Goals as goal

pub returns-clause-piece : goal.returns-clause-piece
returns-clause-piece c = rw c.mark.ensures (mark_is_piece c.args.bytes.now c.args.mark.now c.args.kind c.requires.begins c.requires.within c.requires.ascii)
