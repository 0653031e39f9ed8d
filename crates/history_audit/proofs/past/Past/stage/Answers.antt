use Rattle.std.proofs.Common.{◌≡◌, suc, arith}
use Rattle.history_audit.proofs.Kept.{stage_shown}
use Rattle.history_audit.proofs.past.Past.stage.Goals as goal

pub returns-clause-shown : goal.returns-clause-shown
returns-clause-shown g c h keeps =
    let taken = c.in_ok-place.ensures in
    let place : suc c.in_ok-place.place ≡ c.args.k = omega (arith, taken) in
    stage_shown c.args.self.now h c.stage_at.result c.args.k c.in_ok-place.place place
    (cc (c.stage_at.ensures, c.deref.ensures.value)) keeps
