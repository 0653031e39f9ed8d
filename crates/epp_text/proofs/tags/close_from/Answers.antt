use Rattle.std.proofs.Common.{◌≡◌, ◌<◌, ◌∙◌, false, ap, drop, length, sym, arith}
use Rattle.std.proofs.lemmas.List.{take_rest}
use Rattle.epp_text.specs.Pieces.{closes}
use Rattle.epp_text.proofs.ByteSteps.{close_goes}
use Rattle.epp_text.proofs.tags.close_from.Goals as goal

pub loop-at-preserved : goal.loop-at-preserved
loop-at-preserved c =
    let z = c.args.bytes.now in
    let at = c.loop-at.at in
    let below : at < length z = omega arith in
    let goes : closes (drop at z) ≡ false =
    sym (ap closes (take_rest z at)) ∙ (sym c.closes.ensures.value ∙ c.if-closes.false)
    in
    sym (close_goes at z below goes) ∙ c.loop-at.invariant
