use Rattle.std.proofs.Common.{rules, ◌<◌, ap, sym, subst}
use Rattle.hist_lock.proofs.Keeps.{settles}
use Rattle.hist_lock.proofs.Merges.{divides}
use Rattle.hist_lock.proofs.lock.HistLock.split.Goals as goal

pub split_seat-seat-requires : goal.split_seat-seat-requires
split_seat-seat-requires g c =
    (search rules, search rules, divides g.V.StandsFor.entries g.V.StandsFor.author _ c.pass.inside.seat.me.0 (subst (λ n. 0 < n) (sym (ap (λ h. h.room) c.pass.view_is)) c.requires.room))

pub load-requires : goal.load-requires
load-requires g c = (search rules, search rules, settles g.V.StandsFor.entries g.V.StandsFor.author _ _ c.split_seat-seat.result.me)
