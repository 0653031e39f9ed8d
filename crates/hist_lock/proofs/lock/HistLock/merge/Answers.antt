use Rattle.std.proofs.Common.{rules}
use Rattle.hist_lock.proofs.Keeps.{settles}
use Rattle.hist_lock.proofs.Merges.{merges}
use Rattle.hist_lock.proofs.lock.HistLock.merge.Goals as goal

pub join_seat-requires : goal.join_seat-requires
join_seat-requires g c =
    (search rules, search rules, search rules, search rules, merges g.V.StandsFor.entries g.V.StandsFor.author _ c.args.seat.now.me.0 _ c.args.other.me.0 c.requires.idle.0 c.requires.idle.1)

pub load-requires : goal.load-requires
load-requires g c = (search rules, search rules, settles g.V.StandsFor.entries g.V.StandsFor.author _ _ c.join_seat.new.seat.me)
