use Rattle.std.proofs.Common.{length, ap, arith}
use Rattle.std.proofs.lemmas.List.{nil_from_length}
use Rattle.site_service.proofs.Handing.{handed_none, number_below, site_of, site_now, gone, one_handed, handed_all}
use Rattle.site_service.proofs.service.hand_back.Goals as goal

pub loop-visited-init : goal.loop-visited-init
loop-visited-init g c =
    let none = ap length c.requires.none in (
      handed_none g.N.Conn.Outside.stream c.args.site.now c.args.pass (g.N.Listener.net c.args.net.now) c.args.visits.items _
          c.args.ends.items c.into_iter-visited-iterator.ensures.into_iter_gives.0 c.requires.site c.requires.of c.requires.out c.requires.none,
      omega (arith, none, c.args.ends.ok.0, c.into_iter-visited-iterator.ensures.into_iter_gives.1, c.requires.room),
      omega (arith, c.into_iter-visited-iterator.ensures.into_iter_gives.1, c.args.visits.ok.0, ap length c.into_iter-visited-iterator.ensures.into_iter_gives.0),
    )

pub overflow_add-number : goal.overflow_add-number
overflow_add-number g c =
    let before = c.loop-visited.invariant.0 in
    let below = number_below g.N.Conn.Outside.stream c.args.site.now c.args.pass c.loop-visited.pass
    (g.N.Listener.net c.args.net.now) (g.N.Listener.net c.loop-visited.net) c.args.visits.items _ _ c.loop-visited.number
    c.loop-visited.ends.items before c.in-Some.visited c.in-Some.ensures.steps.0 in
    omega (arith, below, c.requires.few, c.args.visits.ok.0)

pub end_connection-requires : goal.end_connection-requires
end_connection-requires g c = (
  omega arith,
  gone g.N.Conn.Outside.stream c.args.site.now c.args.pass c.loop-visited.pass
      (g.N.Listener.net c.args.net.now) (g.N.Listener.net c.loop-visited.net) c.args.visits.items _ _ c.loop-visited.number
      c.loop-visited.ends.items c.loop-visited.invariant.0 c.in-Some.visited c.in-Some.ensures.steps.0 _ (omega arith),
)

pub join-requires : goal.join-requires
join-requires g c = (
  site_now g.N.Conn.Outside.stream c.args.site.now c.args.pass c.loop-visited.pass (g.N.Listener.net c.args.net.now)
      (g.N.Listener.net c.loop-visited.net) c.args.visits.items _ _ c.loop-visited.number c.loop-visited.ends.items
      c.loop-visited.invariant.0 c.in-Some.visited c.in-Some.ensures.steps.0,
  site_of g.N.Conn.Outside.stream c.args.site.now c.args.pass c.loop-visited.pass (g.N.Listener.net c.args.net.now)
      (g.N.Listener.net c.loop-visited.net) c.args.visits.items _ _ c.loop-visited.number c.loop-visited.ends.items
      c.loop-visited.invariant.0 c.in-Some.visited c.in-Some.ensures.steps.0,
)

pub loop-visited-preserved : goal.loop-visited-preserved
loop-visited-preserved g c =
    let next = ap length c.in-Some.ensures.steps.0 in (
      one_handed g.N.Conn.Outside.stream c.args.site.now c.args.pass c.loop-visited.pass (g.N.Listener.net c.args.net.now)
          (g.N.Listener.net c.loop-visited.net) c.args.visits.items _ _ c.loop-visited.number c.loop-visited.ends.items
          c.loop-visited.invariant.0 c.in-Some.visited c.in-Some.ensures.steps.0 _ c.join.new.pass
          (g.N.Listener.net c.end_connection.new.self) c.push_reserved.new.self.items (omega arith) c.join.ensures.pass
          c.join.ensures.front c.end_connection.ensures.later c.end_connection.ensures.told c.push_reserved.ensures.items,
      omega (
        arith,
        c.loop-visited.invariant.1,
        c.push_reserved.ensures.len,
        c.push_reserved.ensures.capacity,
        c.in-Some.ensures.steps.1,
      ),
      omega (arith, c.loop-visited.invariant.2, c.in-Some.ensures.steps.1, next),
    )

pub returns-clause-joined : goal.returns-clause-joined
returns-clause-joined g c =
    (handed_all g.N.Conn.Outside.stream c.args.site.now c.args.pass c.loop-visited.pass (g.N.Listener.net c.args.net.now)
    (g.N.Listener.net c.loop-visited.net) c.args.visits.items _ c.loop-visited.number c.loop-visited.ends.items
    c.loop-visited.invariant.0
    (nil_from_length _ (omega (arith, c.loop-visited.invariant.2, c.in-None.ensures.steps.0)))).0

pub returns-clause-back : goal.returns-clause-back
returns-clause-back g c =
    (handed_all g.N.Conn.Outside.stream c.args.site.now c.args.pass c.loop-visited.pass (g.N.Listener.net c.args.net.now)
    (g.N.Listener.net c.loop-visited.net) c.args.visits.items _ c.loop-visited.number c.loop-visited.ends.items
    c.loop-visited.invariant.0
    (nil_from_length _ (omega (arith, c.loop-visited.invariant.2, c.in-None.ensures.steps.0)))).1

pub returns-clause-ends : goal.returns-clause-ends
returns-clause-ends g c =
    (handed_all g.N.Conn.Outside.stream c.args.site.now c.args.pass c.loop-visited.pass (g.N.Listener.net c.args.net.now)
    (g.N.Listener.net c.loop-visited.net) c.args.visits.items _ c.loop-visited.number c.loop-visited.ends.items
    c.loop-visited.invariant.0
    (nil_from_length _ (omega (arith, c.loop-visited.invariant.2, c.in-None.ensures.steps.0)))).3
