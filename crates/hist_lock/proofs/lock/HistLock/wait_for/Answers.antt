use Rattle.std.proofs.Common.{rules, ap, ◌∙◌}
use Rattle.hist_lock.proofs.Keeps.{looks}
use Rattle.hist_lock.proofs.lock.HistLock.wait_for.Goals as goal

pub load-served-requires : goal.load-served-requires
load-served-requires g c = let same = c.loop.invariant.2 in
    (search rules, search rules, looks g.V.StandsFor.entries g.V.StandsFor.author _ _ c.loop.seat.me (ap (λ m. m.0.waits) same ∙ c.requires.waits.0) (ap (λ m. m.0.holds) same ∙ c.requires.waits.1))
