use Rattle.std.proofs.Common.{rules, ap, sym, ◌∙◌}
use Rattle.hist_lock.proofs.Keeps.{gives_back_at}
use Rattle.hist_lock.proofs.lock.HistLock.give.Goals as goal

pub fetch_add-served-requires : goal.fetch_add-served-requires
fetch_add-served-requires g c =
    (search rules, search rules, gives_back_at g.V.StandsFor.entries g.V.StandsFor.author _ _ _ c.pass.inside.seat.me.0 _ _ c.exchange.ensures.3 (ap (λ h. h.turn) c.pass.view_is ∙ c.requires.turn) (c.requires.list ∙ sym (ap (λ h. h.front) c.pass.view_is)))
