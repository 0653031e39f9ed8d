use Rattle.std.proofs.Common.{ap, subst, arith}
use Rattle.hist_lock.specs.Calls.{IsLonger}
use Rattle.shared_site.specs.Known.{Known, Told}
use Rattle.shared_site.specs.Shows.{events_in}
use Rattle.shared_site.proofs.Calls.{events_longer}
use Rattle.shared_site.proofs.Longer.{met_ready}
use Rattle.shared_site.proofs.site.SharedSite.meet.Goals as goal

pub invariant_of-pass : goal.invariant_of-pass
invariant_of-pass g c =
    met_ready g.L.Language.meaning c.pass.inside.pass c.meet.new.pass c.note.inside.note.front
    c.pass.inside.count c.note.inside.count c.pass.inside.author c.max-pass-inside.result c.pass.invariant
    c.note.invariant.seen c.note.invariant.count_is (ap (λ x. x.turn) c.meet.ensures.pass)
    (ap (λ x. x.author) c.meet.ensures.pass) c.meet.ensures.front (omega (arith, c.max-pass-inside.ensures))

pub returns-clause-front : goal.returns-clause-front
returns-clause-front g c =
    subst (λ (p : Known g.row.L-Site.Denot). IsLonger p.front c.args.note.front (events_in c.meet.new.pass.front))
    c.pass.view_is
    (subst (λ (o : Told g.row.L-Site.Denot). IsLonger (events_in c.pass.inside.pass.front) o.front
    (events_in c.meet.new.pass.front)) c.note.view_is
    (events_longer c.pass.inside.pass.front c.note.inside.note.front c.meet.new.pass.front
    c.meet.ensures.front))
