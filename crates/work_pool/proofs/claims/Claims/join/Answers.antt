use Rattle.std.proofs.Common.{rules}
use Rattle.work_pool.proofs.Merges.{merges}
use Rattle.work_pool.proofs.Keeps.{settles}
use Rattle.work_pool.proofs.claims.Claims.join.Goals as goal

pub join_seat-requires : goal.join_seat-requires
join_seat-requires c = (search rules, search rules, search rules, search rules, merges _ _ c.seat.inside.seat.me.0 _ _ c.seat.invariant.some)

pub load-requires : goal.load-requires
load-requires c = (search rules, search rules, settles _ _ _ c.join_seat.new.seat.me)
