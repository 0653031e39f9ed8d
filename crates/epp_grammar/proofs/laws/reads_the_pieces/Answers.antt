use Rattle.epp_grammar.proofs.Whole.{pieces_are_read}
use Rattle.epp_grammar.proofs.laws.reads_the_pieces.Goals as goal

pub returns : goal.returns
returns c = pieces_are_read
