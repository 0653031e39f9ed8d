use Rattle.std.proofs.Common.{ap, subst, arith}
use Rattle.hist_lock.specs.Calls.{IsLonger}
use Rattle.shared_site.specs.Known.{Known}
use Rattle.shared_site.specs.Shows.{events_in}
use Rattle.shared_site.proofs.Calls.{events_longer}
use Rattle.shared_site.proofs.Longer.{met_ready}
use Rattle.shared_site.proofs.site.SharedSite.join.Goals as goal

pub invariant_of-pass : goal.invariant_of-pass
invariant_of-pass g c =
    met_ready g.L.Language.meaning c.pass.inside.pass c.join.new.pass c.other.inside.pass.front
    c.pass.inside.count c.other.inside.count c.pass.inside.author c.max-pass-inside.result c.pass.invariant
    c.other.invariant.seen c.other.invariant.count_is (ap (λ x. x.turn) c.join.ensures.pass)
    (ap (λ x. x.author) c.join.ensures.pass) c.join.ensures.front (omega (arith, c.max-pass-inside.ensures))

pub returns-clause-front : goal.returns-clause-front
returns-clause-front g c =
    subst (λ (p : Known g.row.L-Site.Denot). IsLonger p.front c.args.other.front (events_in c.join.new.pass.front))
    c.pass.view_is
    (subst (λ (o : Known g.row.L-Site.Denot). IsLonger (events_in c.pass.inside.pass.front) o.front
    (events_in c.join.new.pass.front)) c.other.view_is
    (events_longer c.pass.inside.pass.front c.other.inside.pass.front c.join.new.pass.front
    c.join.ensures.front))
