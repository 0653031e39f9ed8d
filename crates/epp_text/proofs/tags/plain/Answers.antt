use Rattle.std.proofs.Common.{subst, sym}
use Rattle.epp_text.specs.Fronts.{IsPart}
use Rattle.epp_text.proofs.Cuts.{tag_is_part}
use Rattle.epp_text.proofs.tags.plain.Goals as goal

pub returns-clause-part : goal.returns-clause-part
returns-clause-part c =
    let r = c.requires in
    subst (IsPart c.args.text.now) (sym c.new.ensures)
    (tag_is_part c.args.text.now _ c.args.from c.args.end _ c.utf8.text r.begin r.within r.ends)
