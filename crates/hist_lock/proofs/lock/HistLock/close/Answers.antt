use Rattle.std.proofs.Common.{ap, sym, ◌∙◌, ◌≡◌, ◌+◌, Some, subst, length}
use mathlib.Core.List.{IsPrefix}
use mathlib.Core.Option.{some-injective}
use Rattle.hist_lock.specs.Calls.{AreAllCalls}
use Rattle.hist_lock.proofs.Ends.{ends}
use Rattle.hist_lock.proofs.Placed.{idle_seat}
use Rattle.hist_lock.proofs.lock.HistLock.close.Goals as goal

pub unreachable-requires : goal.unreachable-requires
unreachable-requires g c =
    let p = c.pass.inside in let e = c.pass.view_is in
    let free = (idle_seat p.seat (ap (λ h. h.turn) e ∙ c.requires.idle) c.pass.invariant.placed).0 in
    let t = ends g.V.StandsFor.entries g.V.StandsFor.author p.seat.id p.seat.me.0 _ _ free (ap (λ h. h.room + length h.numbers) e ∙ c.requires.all) c.close_with-closed.ensures.values.2 in
    c.in_default.not-Some t.0 (some-injective _ _ (sym c.take.ensures.value ∙ t.1))

pub returns-clause-front : goal.returns-clause-front
returns-clause-front g c =
    let p = c.pass.inside in let e = c.pass.view_is in
    let free = (idle_seat p.seat (ap (λ h. h.turn) e ∙ c.requires.idle) c.pass.invariant.placed).0 in
    let t = ends g.V.StandsFor.entries g.V.StandsFor.author p.seat.id p.seat.me.0 _ _ free (ap (λ h. h.room + length h.numbers) e ∙ c.requires.all) c.close_with-closed.ensures.values.2 in
    let is : Some t.0 ≡ Some c.in-Some.value = some-injective _ _ (sym t.1 ∙ c.take.ensures.value) ∙ c.in-Some.is in
    let value : t.0 ≡ c.in-Some.value = cc in
    subst (λ l. IsPrefix l (g.V.StandsFor.entries c.in-Some.value)) (ap (λ h. h.front) e) (subst (λ v. IsPrefix p.seat.me.0.front (g.V.StandsFor.entries v)) value t.2)

pub returns-clause-all : goal.returns-clause-all
returns-clause-all g c =
    let p = c.pass.inside in let e = c.pass.view_is in
    let free = (idle_seat p.seat (ap (λ h. h.turn) e ∙ c.requires.idle) c.pass.invariant.placed).0 in
    let t = ends g.V.StandsFor.entries g.V.StandsFor.author p.seat.id p.seat.me.0 _ _ free (ap (λ h. h.room + length h.numbers) e ∙ c.requires.all) c.close_with-closed.ensures.values.2 in
    let is : Some t.0 ≡ Some c.in-Some.value = some-injective _ _ (sym t.1 ∙ c.take.ensures.value) ∙ c.in-Some.is in
    let value : t.0 ≡ c.in-Some.value = cc in
    subst (λ l. AreAllCalls g.V.StandsFor.author l (g.V.StandsFor.entries c.in-Some.value)) (ap (λ h. h.calls) e) (subst (λ v. AreAllCalls g.V.StandsFor.author p.seat.me.0.calls (g.V.StandsFor.entries v)) value t.3)
