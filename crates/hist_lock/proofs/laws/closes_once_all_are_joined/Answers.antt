use Rattle.std.proofs.Common.{ap, subst, ◌∙◌}
use mathlib.Core.List.{IsPrefix}
use Rattle.hist_lock.proofs.Fronts.{rejoined}
use Rattle.hist_lock.proofs.laws.closes_once_all_are_joined.Goals as goal

pub returns-clause-ok : goal.returns-clause-ok
returns-clause-ok g c =
    rejoined (g.V.StandsFor.entries c.args.value) (g.V.StandsFor.entries c.take-turn.result.value) _ _ _ _
    (ap (λ p. p.front) c.give.ensures ∙ ap (λ p. p.front) c.split.ensures.pass
    ∙ ap (λ p. p.front) c.take-turn.ensures.pass)
    (ap (λ p. p.front) c.in-Ok.ensures.new ∙ ap (λ p. p.front) c.take-turn.ensures.pass)
    (subst (λ xs. IsPrefix xs (g.V.StandsFor.entries c.take-turn.result.value))
    (ap (λ p. p.front) c.in_ok-lock.ensures.ok) c.take-turn.ensures.before)
    c.join.ensures.front c.close.ensures.front
