-- Some connections are back, and their passes joined.
use Rattle.std.proofs.Common.{◌≡◌, ◌+◌, ◌≤◌, length, vec_len, vec_capacity}
use Rattle.std.specs.Vec.Iter.{into_iter_items, into_iter_len}
use Rattle.site_service.proofs.Handing.{AreHandedTo}
use Rattle.site_service.proofs.service.hand_back.Given as goal

abbrev pub invariant-loop-visited : goal.invariant-loop-visited
invariant-loop-visited g l =
    AreHandedTo g.N.Conn.Outside.stream l.site l.fn.pass (g.N.Listener.net l.fn.net) l.fn.visits.items
    (into_iter_items l.visited-iterator) l.number l.pass (g.N.Listener.net l.net) l.ends.items
    × (vec_len l.ends + into_iter_len l.visited-iterator ≤ vec_capacity l.ends)
    × (into_iter_len l.visited-iterator ≡ length (into_iter_items l.visited-iterator))
