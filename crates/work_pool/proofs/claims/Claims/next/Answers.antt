use Rattle.std.proofs.Common.{rules, ◌<◌, ◌≡◌, ap, sym, subst, ◌∙◌, arith}
use Rattle.work_pool.proofs.Keeps.{looks, draws}
use Rattle.work_pool.proofs.Drawn.{claimed_is}
use Rattle.work_pool.proofs.claims.Claims.next.Goals as goal

pub load-requires : goal.load-requires
load-requires c = (search rules, search rules, looks _ _ _ c.seat.inside.seat.me c.seat.invariant.some)

pub fetch_add-number-requires : goal.fetch_add-number-requires
fetch_add-number-requires c =
    let count : c.seat.inside.seat.me.0.count ≡ c.self.inside.count = ap (λ p. p.claims.count) c.seat.view_is ∙ (ap (λ k. k.count) c.requires ∙ sym (ap (λ k. k.count) c.self.view_is)) in
    let e = c.load.ensures.2.0 in
    (search rules, search rules, draws _ _ _ c.load.new.seat.me (subst (λ m. 0 < m.0.held) (sym e) c.seat.invariant.some) (ap (λ m. m.0.past) e ∙ c.load.ensures.2.2 (omega arith)))

pub invariant_of-seat-2 : goal.invariant_of-seat-2
invariant_of-seat-2 c =
    let count : c.seat.inside.seat.me.0.count ≡ c.self.inside.count = ap (λ p. p.claims.count) c.seat.view_is ∙ (ap (λ k. k.count) c.requires ∙ sym (ap (λ k. k.count) c.self.view_is)) in
    let e = c.load.ensures.2.0 in
    claimed_is c.seat.inside.seat c.load.new.seat c.fetch_add-number.new.seat c.load.result c.fetch_add-number.result e c.load.ensures.2.1 c.fetch_add-number.ensures.2.0
    (c.fetch_add-number.ensures.2.1 (omega (arith, ap (λ m. m.0.count) e))) c.seat.invariant
