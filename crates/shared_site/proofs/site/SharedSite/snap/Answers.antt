use Rattle.std.proofs.Common.{◌≡◌, sym, subst, length}
use Rattle.std.specs.Prelude.{IfOk}
use Rattle.site_core.specs.Snapshots.{Of}
use Rattle.shared_site.specs.Known.{IsLater}
use Rattle.shared_site.specs.Seats.{known}
use Rattle.shared_site.proofs.Turns.{looked}
use Rattle.shared_site.proofs.site.SharedSite.snap.Goals as goal

pub invariant_of-pass : goal.invariant_of-pass
invariant_of-pass g c =
    (looked g.L.Language.meaning c.pass.inside.pass c.take-turn.new.pass c.give.new.pass c.pass.inside.count
    c.len-pass-inside.result c.pass.inside.author c.take-turn.result.value c.pass.invariant
    c.len-pass-inside.ensures.lasts c.len-pass-inside.ensures.len c.take-turn.ensures.pass c.give.ensures
    c.take-turn.ensures.before).ready

pub returns-clause-later : goal.returns-clause-later
returns-clause-later g c =
    subst (λ p. IsLater p (known c.give.new.pass)) c.pass.view_is
    (looked g.L.Language.meaning c.pass.inside.pass c.take-turn.new.pass c.give.new.pass c.pass.inside.count
    c.len-pass-inside.result c.pass.inside.author c.take-turn.result.value c.pass.invariant
    c.len-pass-inside.ensures.lasts c.len-pass-inside.ensures.len c.take-turn.ensures.pass c.give.ensures
    c.take-turn.ensures.before).later

pub returns-clause-legal : goal.returns-clause-legal
returns-clause-legal g c =
    (looked g.L.Language.meaning c.pass.inside.pass c.take-turn.new.pass c.give.new.pass c.pass.inside.count
    c.len-pass-inside.result c.pass.inside.author c.take-turn.result.value c.pass.invariant
    c.len-pass-inside.ensures.lasts c.len-pass-inside.ensures.len c.take-turn.ensures.pass c.give.ensures
    c.take-turn.ensures.before).ready.seen.lasts.sound.legal

pub returns-clause-number : goal.returns-clause-number
returns-clause-number g c =
    subst (λ h. IfOk c.snap-snapshot.result (λ s. s.k ≡ length h)) (sym
    (looked g.L.Language.meaning c.pass.inside.pass c.take-turn.new.pass c.give.new.pass c.pass.inside.count
    c.len-pass-inside.result c.pass.inside.author c.take-turn.result.value c.pass.invariant
    c.len-pass-inside.ensures.lasts c.len-pass-inside.ensures.len c.take-turn.ensures.pass c.give.ensures
    c.take-turn.ensures.before).front)
    c.snap-snapshot.ensures.number

pub returns-clause-of : goal.returns-clause-of
returns-clause-of g c =
    subst (λ h. IfOk c.snap-snapshot.result (λ s. Of s h)) (sym
    (looked g.L.Language.meaning c.pass.inside.pass c.take-turn.new.pass c.give.new.pass c.pass.inside.count
    c.len-pass-inside.result c.pass.inside.author c.take-turn.result.value c.pass.invariant
    c.len-pass-inside.ensures.lasts c.len-pass-inside.ensures.len c.take-turn.ensures.pass c.give.ensures
    c.take-turn.ensures.before).front)
    c.snap-snapshot.ensures.of
