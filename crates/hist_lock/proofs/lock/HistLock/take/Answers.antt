use Rattle.std.proofs.Common.{rules, ap, sym, ◌∙◌, ◌∷◌, Some}
use Rattle.atomic_table.specs.Table.{rest}
use Rattle.hist_lock.proofs.Keeps.{draws_at}
use Rattle.hist_lock.proofs.Placed.{idle_seat}
use Rattle.hist_lock.proofs.lock.HistLock.take.Goals as goal

pub fetch_add-ticket-requires : goal.fetch_add-ticket-requires
fetch_add-ticket-requires g c = let p = c.pass.inside in let idle = ap (λ h. h.turn) c.pass.view_is ∙ c.requires.idle in
    (search rules, search rules, draws_at g.V.StandsFor.entries g.V.StandsFor.author _ _ p.seat.me p.author (idle_seat p.seat idle c.pass.invariant.placed).0 idle c.pass.invariant.mine)

pub exchange-requires : goal.exchange-requires
exchange-requires g c = let t = c.wait_for.ensures.seized in let e = ap (λ m. m.1) t.1 in (search rules, (Some t.0, e ∙ ap (λ l. (0, Some t.0) ∷ rest l) (sym e)))
