use Rattle.std.proofs.Common.{◌≡◌, ◌≤◌, length, Some, slice_get, subst}
use Rattle.hist_lock.specs.Calls.{AreCalls}
use Rattle.site_core.specs.Events.{author_of}
use Rattle.shared_site.specs.Known.{Known}
use Rattle.shared_site.specs.Shows.{events_in, terms_in}
use Rattle.shared_site.proofs.Calls.{first_moved, own_events}
use Rattle.shared_site.proofs.Parted.{given_within}
use Rattle.shared_site.proofs.pass.SitePass.keeps.Goals as goal

pub returns-clause-given : goal.returns-clause-given
returns-clause-given g c =
    subst (λ (p : Known g.row.L-Site.Denot). p.terms.given ≤ length p.front) c.self.view_is
    (given_within (terms_in c.self.inside.pass.front) (events_in c.self.inside.pass.front)
    c.self.invariant.seen.lasts.parted)

pub returns-clause-own : goal.returns-clause-own
returns-clause-own g c =
    subst (λ (p : Known g.row.L-Site.Denot). AreCalls author_of p.own p.numbers p.front) c.self.view_is
    (own_events c.self.inside.pass.calls c.self.inside.pass.numbers c.self.inside.pass.front
    c.self.invariant.seen.shown_is c.keeps.ensures.own)

pub returns-clause-author : goal.returns-clause-author
returns-clause-author g c =
    subst (λ (p : Known g.row.L-Site.Denot). slice_get p.numbers 0 ≡ Some p.author) c.self.view_is
    (first_moved (terms_in c.self.inside.pass.front).base c.self.inside.pass.author c.self.inside.pass.numbers
    c.keeps.ensures.author)
