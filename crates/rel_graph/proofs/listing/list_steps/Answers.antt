use Rattle.std.proofs.Common.{◌≡◌, ◌∙◌, ℕ, ◌<◌, ◌≤◌, true, false, ◌∷◌, ◌++◌, length, get_or, slice_index, replicate, rules, take, drop, Contains, ap, sym, subst, subst₂, arith, true≢false, length-set}
use Rattle.std.proofs.lemmas.List.{length-replicate}
use Rattle.rel_graph.specs.Before.{Direct}
use Rattle.rel_graph.specs.Listing.{Listing}
use Rattle.rel_graph.specs.Marks.{Marked}
use Rattle.rel_graph.specs.Releases.{times, targets}
use Rattle.rel_graph.specs.Steps.{IsListing, Pending, AreCounted, AreReady, AreLeft}
use Rattle.rel_graph.proofs.Levels.{written_back}
use Rattle.rel_graph.proofs.Ordering.{listing_start, fewer_left}
use Rattle.rel_graph.proofs.StepLemmas.{first_within, first_listing, first_enough}
use Rattle.rel_graph.proofs.StepOrders.{steps_stuck, steps_next, next_left, left_same, turn_counted, turn_ready, turn_left, nothing_left, counted_start, ready_start, left_start}
use Rattle.rel_graph.proofs.listing.list_steps.Goals as goal

pub loop-order-init : goal.loop-order-init
loop-order-init c =
    let waits = c.in_ok-waits.waits.items in
    let free = c.in_ok-free.free.items in
    let left_is : c.in_ok-left.left.items ≡ replicate c.args.count true = search rules in
    let done_is : c.in_ok-done.done.items ≡ replicate (length c.args.out.now) false = search rules in
    record {
      long = ap length left_is ∙ length-replicate c.args.count true;
      listing = subst₂ (λ l o. Listing (Direct c.args.containers.now c.args.edges.now) c.args.count l o)
          (sym left_is) (sym c.new-order.ensures.items)
          (listing_start (Direct c.args.containers.now c.args.edges.now) c.args.count);
      counted = subst₂ (λ d q. AreCounted c.args.arrows.now (length c.args.out.now) d waits (Pending free q))
          (sym done_is) (sym c.new-ready.ensures.empty)
          (counted_start c.args.arrows.now (length c.args.out.now) waits free c.in_ok-waits.ensures.long
          c.in_ok-waits.ensures.counted
          (subst (λ w. (v : ℕ) → Contains free v → (v < length w) × (slice_index w v ≡ 0)) c.as_slice.ensures.value
          c.in_ok-free.ensures.sound)
          (subst (λ w. (v : ℕ) → v < length w → slice_index w v ≡ 0 → Contains free v) c.as_slice.ensures.value
          c.in_ok-free.ensures.all));
      ready = subst (λ q. AreReady c.in_ok-done.done.items q) (sym c.new-ready.ensures.empty)
          (ready_start c.in_ok-done.done.items);
      left = subst₂ (λ d l. AreLeft c.args.count d l) (sym done_is) (sym left_is)
          (left_start c.args.count (length c.args.out.now));
    }

pub listed_by-next-requires : goal.listed_by-next-requires
listed_by-next-requires c =
    let x : IsListing c.in-Some.step = first_listing c.args.arrows.now (length c.args.out.now) c.settle.new.done
    c.settle.new.waits c.settle.new.ready.keys c.pop_first.new.self.keys c.in-Some.step c.in-Some.ensures.removal
    c.in_ok-settle.ensures.counted c.in_ok-settle.ensures.ready in
    let e = x.1 in
    let n = first_within c.args.arrows.now (length c.args.out.now) c.settle.new.done c.settle.new.waits
    c.settle.new.ready.keys c.pop_first.new.self.keys c.in-Some.step c.in-Some.ensures.removal
    c.in_ok-settle.ensures.counted c.in_ok-settle.ensures.ready in
    let w = c.requires.steps in
    let f = c.ranges.count.fits in
    (x.0, omega (arith, e, n, w, f), x.1)

pub index_mut-requires : goal.index_mut-requires
index_mut-requires c =
    let e = c.listed_by-next.ensures in
    let n = first_within c.args.arrows.now (length c.args.out.now) c.settle.new.done c.settle.new.waits
    c.settle.new.ready.keys c.pop_first.new.self.keys c.in-Some.step c.in-Some.ensures.removal
    c.in_ok-settle.ensures.counted c.in_ok-settle.ensures.ready in
    let w = c.requires.steps in
    let l = c.loop-order.invariant.long in
    omega (arith, e, n, w, l)

pub finish-requires-clause-step : goal.finish-requires-clause-step
finish-requires-clause-step c = first_within c.args.arrows.now (length c.args.out.now) c.settle.new.done c.settle.new.waits
    c.settle.new.ready.keys c.pop_first.new.self.keys c.in-Some.step c.in-Some.ensures.removal
    c.in_ok-settle.ensures.counted c.in_ok-settle.ensures.ready

pub finish-requires-clause-enough : goal.finish-requires-clause-enough
finish-requires-clause-enough c = λ v h.
    let is = c.deref_mut-in-Some-2.ensures.value ∙ written_back c.loop-order.waits.len c.loop-order.waits.items
    c.settle.new.waits (omega arith) in
    subst (λ w. times (targets c.args.arrows.now c.in-Some.step) v ≤ slice_index w v) (sym is)
    (first_enough c.args.arrows.now (length c.args.out.now) c.settle.new.done c.settle.new.waits
    c.settle.new.ready.keys c.pop_first.new.self.keys c.in-Some.step c.in-Some.ensures.removal
    c.in_ok-settle.ensures.counted c.in_ok-settle.ensures.ready v h)

pub loop-order-smaller : goal.loop-order-smaller
loop-order-smaller c =
    let left : AreLeft c.args.count c.settle.new.done c.loop-order.left.items =
    left_same c.args.count c.loop-order.done.items c.settle.new.done c.loop-order.left.items
    c.loop-order.invariant.left (λ v h. subst (λ d. get_or c.settle.new.done v false ≡ get_or d v false)
    c.deref_mut.ensures.value (c.in_ok-settle.ensures.listings v h)) in
    fewer_left c.loop-order.left.items c.listed_by-next.result
    (next_left c.args.containers.now c.args.edges.now c.args.arrows.now c.args.count (length c.args.out.now)
    c.requires.steps c.requires.below c.requires.edges_below c.requires.arrows c.settle.new.done
    c.loop-order.left.items c.settle.new.waits c.settle.new.ready.keys c.in_ok-settle.ensures.counted
    c.in_ok-settle.ensures.ready left c.listed_by-next.result c.pop_first.new.self.keys
    (c.in-Some.ensures.removal ∙ ap (λ s. s ∷ c.pop_first.new.self.keys) c.listed_by-next.ensures))

pub loop-order-preserved : goal.loop-order-preserved
loop-order-preserved c =
    let done = c.settle.new.done in
    let waits = c.settle.new.waits in
    let ready = c.settle.new.ready.keys in
    let rest = c.pop_first.new.self.keys in
    let k = c.in_ok-settle.ensures.counted in
    let r = c.in_ok-settle.ensures.ready in
    let is = c.in-Some.ensures.removal in
    let left : AreLeft c.args.count c.settle.new.done c.loop-order.left.items =
    left_same c.args.count c.loop-order.done.items c.settle.new.done c.loop-order.left.items
    c.loop-order.invariant.left (λ v h. subst (λ d. get_or c.settle.new.done v false ≡ get_or d v false)
    c.deref_mut.ensures.value (c.in_ok-settle.ensures.listings v h)) in
    let marked : Marked c.loop-order.left.items c.listed_by-next.result =
    next_left c.args.containers.now c.args.edges.now c.args.arrows.now c.args.count (length c.args.out.now)
    c.requires.steps c.requires.below c.requires.edges_below c.requires.arrows c.settle.new.done
    c.loop-order.left.items c.settle.new.waits c.settle.new.ready.keys c.in_ok-settle.ensures.counted
    c.in_ok-settle.ensures.ready left c.listed_by-next.result c.pop_first.new.self.keys
    (c.in-Some.ensures.removal ∙ ap (λ s. s ∷ c.pop_first.new.self.keys) c.listed_by-next.ensures) in
    let same = c.deref_mut-in-Some.ensures.value ∙
    written_back c.loop-order.done.len c.loop-order.done.items done (omega arith) in
    let same_waits = c.deref_mut-in-Some-2.ensures.value ∙
    written_back c.loop-order.waits.len c.loop-order.waits.items waits (omega arith) in
    rw (
      written_back c.loop-order.done.len (take c.loop-order.done.len (done ++ drop (length done) c.loop-order.done.items))
          c.finish.new.done (omega arith),
      written_back c.loop-order.waits.len
          (take c.loop-order.waits.len (waits ++ drop (length waits) c.loop-order.waits.items))
          c.finish.new.waits (omega arith),
    ) (record {
      long = length-set c.loop-order.left.items c.listed_by-next.result false ∙ c.loop-order.invariant.long;
      listing = rw c.in_ok-push-in-Some.ensures.items (steps_next c.args.containers.now c.args.edges.now
          c.args.arrows.now c.args.count (length c.args.out.now) c.requires.steps c.requires.below
          c.requires.edges_below c.requires.arrows done c.loop-order.left.items waits ready k r left
          c.requires.contains c.loop-order.order.items rest c.in-Some.step c.listed_by-next.result
          c.loop-order.invariant.listing is c.in-Some.ensures.all_above c.listed_by-next.ensures);
      counted = turn_counted c.args.arrows.now (length c.args.out.now) done c.deref_mut-in-Some.result.now
          c.finish.new.done waits c.deref_mut-in-Some-2.result.now c.finish.new.waits ready rest
          c.settle.new.free.items c.finish.new.free.items c.in-Some.step is k r same c.finish.ensures.done same_waits
          c.in_ok-settle.ensures.free c.in_ok-finish-in-Some.ensures.released;
      ready = turn_ready c.args.arrows.now (length c.args.out.now) done c.deref_mut-in-Some.result.now
          c.finish.new.done waits c.deref_mut-in-Some-2.result.now c.finish.new.waits ready rest
          c.settle.new.free.items c.finish.new.free.items c.in-Some.step is k r same c.finish.ensures.done
          c.in-Some.ensures.all_above;
      left = turn_left c.args.arrows.now (length c.args.out.now) done c.deref_mut-in-Some.result.now
          c.finish.new.done waits c.deref_mut-in-Some-2.result.now c.finish.new.waits ready rest
          c.settle.new.free.items c.finish.new.free.items c.in-Some.step is k r same c.finish.ensures.done
          c.args.count c.listed_by-next.result c.loop-order.left.items left marked
          c.listed_by-next.ensures;
    })

pub returns-in-None-clause-stuck : goal.returns-in-None-clause-stuck
returns-in-None-clause-stuck c =
    let left : AreLeft c.args.count c.settle.new.done c.loop-order.left.items =
    left_same c.args.count c.loop-order.done.items c.settle.new.done c.loop-order.left.items
    c.loop-order.invariant.left (λ v h. subst (λ d. get_or c.settle.new.done v false ≡ get_or d v false)
    c.deref_mut.ensures.value (c.in_ok-settle.ensures.listings v h)) in
    steps_stuck c.args.containers.now c.args.edges.now c.args.arrows.now c.args.count
    (length c.args.out.now) c.requires.steps c.requires.below c.requires.edges_below c.requires.arrows
    c.settle.new.done c.loop-order.left.items c.settle.new.waits c.settle.new.ready.keys
    c.in_ok-settle.ensures.counted c.in_ok-settle.ensures.ready left c.requires.contains
    (nothing_left c.settle.new.ready.keys (λ h. true≢false (sym (c.in-None.ensures.variant.1 h))))
