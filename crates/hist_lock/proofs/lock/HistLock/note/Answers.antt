use Rattle.std.proofs.Common.{rules}
use Rattle.hist_lock.proofs.Merges.{copies}
use Rattle.hist_lock.proofs.lock.HistLock.note.Goals as goal

pub split_seat-seat-requires : goal.split_seat-seat-requires
split_seat-seat-requires g c = (search rules, search rules, copies g.V.StandsFor.entries g.V.StandsFor.author _ c.pass.inside.seat.me.0)
