use Rattle.std.proofs.Common.{subst, sym}
use Rattle.epp_text.specs.Fronts.{IsPart}
use Rattle.epp_text.proofs.Cuts.{rest_is_part}
use Rattle.epp_text.proofs.tags.unclosed.Goals as goal

pub returns-clause-part : goal.returns-clause-part
returns-clause-part c =
    subst (IsPart c.args.text.now) (sym c.new.ensures) (rest_is_part c.args.text.now _ _ c.utf8.text c.requires)
