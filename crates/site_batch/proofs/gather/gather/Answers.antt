use Rattle.site_batch.proofs.Gathering.{joining_one, next_of, joining_more}
use Rattle.site_batch.proofs.gather.gather.Goals as goal

pub loop-next-init : goal.loop-next-init
loop-next-init g c =
    joining_one c.args.site.now c.args.claims.now c.args.works.items c.pop.new.self.items c.in-Some.first
    c.in-Some-kept.answers c.requires c.in-Some.ensures.items c.in-Some-kept.is

pub join-requires : goal.join-requires
join-requires g c =
    let of = next_of c.args.site.now c.args.claims.now c.args.works.items c.loop-next.works.items
    c.pop-in-loop-next.new.self.items c.in-Some-pop.next _ _ _ c.requires c.loop-next.invariant
    c.in-Some-pop.ensures.items in
    (c.loop-next.invariant.site_is, of.0)

pub join-requires-in-Some-pop : goal.join-requires-in-Some-pop
join-requires-in-Some-pop g c =
    let of = next_of c.args.site.now c.args.claims.now c.args.works.items c.loop-next.works.items
    c.pop-in-loop-next.new.self.items c.in-Some-pop.next _ _ _ c.requires c.loop-next.invariant
    c.in-Some-pop.ensures.items in
    (c.loop-next.invariant.claims_are, of.1)

pub loop-next-preserved : goal.loop-next-preserved
loop-next-preserved g c =
    joining_more c.args.site.now c.args.claims.now c.args.works.items c.loop-next.works.items
    c.pop-in-loop-next.new.self.items c.in-Some-pop.next c.loop-next.pass c.join.new.pass c.loop-next.seat
    c.join-in-Some-pop.new.seat c.loop-next.answers.items c.append.new.self.items c.in-Some-given.more
    c.loop-next.invariant c.in-Some-pop.ensures.items c.in-Some-given.is c.join.ensures.pass c.join.ensures.front
    c.join-in-Some-pop.ensures.seat c.in_ok-append.ensures.items
