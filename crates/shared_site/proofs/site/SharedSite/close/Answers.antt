use Rattle.std.proofs.Common.{◌∙◌, sym, ap, subst, ℕ}
use Rattle.list_sums.specs.Counts.{times}
use mathlib.Core.List.{IsPrefix}
use Rattle.shared_site.specs.Known.{AreTheOthers}
use Rattle.shared_site.proofs.Calls.{authored}
use Rattle.shared_site.proofs.Parted.{others_closed}
use Rattle.shared_site.proofs.Turns.{found}
use Rattle.shared_site.proofs.site.SharedSite.close.Goals as goal

pub returns-clause-front : goal.returns-clause-front
returns-clause-front g c =
    subst (IsPrefix c.args.pass.front) (sym c.into_history.ensures.history)
    (subst (λ p. IsPrefix p.front c.close.result.history) c.pass.view_is
    (found g.L.Language.meaning c.pass.inside.pass c.pass.inside.count c.pass.inside.author c.close.result
    c.pass.invariant c.close.ensures.front).events)

pub returns-clause-own : goal.returns-clause-own
returns-clause-own g c =
    subst (AreTheOthers c.args.pass.terms.given c.args.pass.own) (sym c.into_history.ensures.history)
    (others_closed c.args.pass.terms c.close.result.terms c.close.result.history c.args.pass.own
    (sym (ap (λ p. p.terms) c.pass.view_is)
    ∙ (found g.L.Language.meaning c.pass.inside.pass c.pass.inside.count c.pass.inside.author c.close.result
    c.pass.invariant c.close.ensures.front).terms)
    c.into_history.ensures.lasts.parted
    (λ (place : ℕ). ap (λ p. times place p.own) (sym c.pass.view_is) ∙ c.close.ensures.all place
    ∙ authored c.close.result.terms c.close.result.history place))
