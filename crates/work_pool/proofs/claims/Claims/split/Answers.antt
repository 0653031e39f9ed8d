use Rattle.std.proofs.Common.{rules, ◌<◌, ap, sym, subst}
use Rattle.work_pool.proofs.Merges.{divides}
use Rattle.work_pool.proofs.claims.Claims.split.Goals as goal

pub split_seat-new-requires : goal.split_seat-new-requires
split_seat-new-requires c = (search rules, search rules, divides _ _ c.seat.inside.seat.me.0 (subst (λ n. 0 < n) (sym (ap (λ p. p.room) c.seat.view_is)) c.requires.room) c.seat.invariant.some)
