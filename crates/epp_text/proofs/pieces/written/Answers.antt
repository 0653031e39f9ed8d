use Rattle.std.proofs.Common.{subst, sym}
use Rattle.epp_text.specs.Fronts.{IsPart}
use Rattle.epp_text.proofs.Cuts.{written_is_part}
use Rattle.epp_text.proofs.pieces.written.Goals as goal

pub returns-clause-part : goal.returns-clause-part
returns-clause-part c =
    let w = c.requires.within in
    subst (IsPart c.args.text.now) (sym c.new.ensures)
    (written_is_part c.args.text.now _ c.args.from c.args.to _ c.utf8.text w.0 w.1 w.2 w.3 c.requires.ascii)
