use Rattle.std.proofs.Common.{ℕ, List, subst, sym}
use Rattle.epp_text.specs.Fronts.{IsPart}
use Rattle.epp_text.proofs.Cuts.{run_is_part}
use Rattle.epp_text.proofs.runs.run.Goals as goal

pub returns-clause-part : goal.returns-clause-part
returns-clause-part c =
    let z = c.as_bytes-bytes.result.now in
    let utf8 = c.as_bytes-bytes.ensures.utf8 in
    let len = c.run_len-len.ensures in
    let to = c.run_to-to.ensures in
    subst (λ (t : List ℕ). IsPart t c.new.result) c.as_bytes-bytes.ensures.value
    (subst (IsPart z) (sym c.new.ensures)
    (run_is_part z c.run_to-to.result c.run_len-len.result _ utf8 len.within.0 len.within.1 len.ascii to.within to.feed))
