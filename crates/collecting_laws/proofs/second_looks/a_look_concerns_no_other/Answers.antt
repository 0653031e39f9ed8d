use Rattle.collecting_laws.proofs.Elsewhere.{others_untouched}
use Rattle.collecting_laws.proofs.second_looks.a_look_concerns_no_other.Goals as goal

pub returns : goal.returns
returns c = others_untouched
