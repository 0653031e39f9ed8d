use Rattle.std.proofs.Common.{◌<◌, length, arith, count_by, not, set, true, refl, sym, true≢false, ◌∙◌}
use Rattle.rel_graph.specs.Steps.{IsListing}
use Rattle.rel_graph.proofs.Marking.{fewer_unmarked}
use Rattle.rel_graph.proofs.ReleaseLemmas.{turn_more}
use Rattle.rel_graph.proofs.StepLemmas.{free_within, free_done, listing_counted, listing_ready, free_enough, free_counted, free_listings, free_ready}
use Rattle.rel_graph.proofs.releasing.pass.Goals as goal

pub bounds-done-step : goal.bounds-done-step
bounds-done-step c =
    let n = free_within c.args.arrows.now (length c.args.out.now) c.args.done.now c.args.waits.now
    c.args.free.now.items c.args.ready.now.keys c.args.step c.requires.counted c.requires.ready in
    let e = c.requires.counted.marks in
    omega (arith, n, e)

pub finish-requires-clause-step : goal.finish-requires-clause-step
finish-requires-clause-step c = free_within c.args.arrows.now (length c.args.out.now) c.args.done.now c.args.waits.now
    c.args.free.now.items c.args.ready.now.keys c.args.step c.requires.counted c.requires.ready

pub finish-requires-clause-marks : goal.finish-requires-clause-marks
finish-requires-clause-marks c = c.requires.counted.marks

pub finish-requires-clause-counts : goal.finish-requires-clause-counts
finish-requires-clause-counts c = c.requires.counted.counts

pub finish-requires-clause-enough : goal.finish-requires-clause-enough
finish-requires-clause-enough c = free_enough c.args.arrows.now (length c.args.out.now) c.args.done.now c.args.waits.now
    c.args.free.now.items c.args.ready.now.keys c.args.step c.requires.counted c.requires.ready c.if-done-step.false

pub returns-then-done-step-clause-counted : goal.returns-then-done-step-clause-counted
returns-then-done-step-clause-counted c = free_done c.args.arrows.now (length c.args.out.now) c.args.done.now
    c.args.waits.now c.args.free.now.items c.args.ready.now.keys c.args.step c.requires.counted c.requires.ready
    c.if-done-step.true

pub returns-then-is_listing-clause-counted : goal.returns-then-is_listing-clause-counted
returns-then-is_listing-clause-counted c = listing_counted c.args.arrows.now (length c.args.out.now) c.args.done.now
    c.args.waits.now c.args.free.now.items c.args.ready.now.keys c.args.step c.requires.counted c.requires.ready
    c.if-done-step.false c.args.ready.now c.insert.new.self c.in_ok-insert.ensures.updates refl

pub returns-then-is_listing-clause-ready : goal.returns-then-is_listing-clause-ready
returns-then-is_listing-clause-ready c = listing_ready c.args.arrows.now (length c.args.out.now) c.args.done.now
    c.args.waits.now c.args.free.now.items c.args.ready.now.keys c.args.step c.requires.counted c.requires.ready
    c.if-done-step.false c.args.ready.now c.insert.new.self c.in_ok-insert.ensures.updates refl
    (c.is_listing.ensures.0 c.if-is_listing.true)

pub returns-clause-counted : goal.returns-clause-counted
returns-clause-counted c = rw c.finish.ensures.done (free_counted c.args.arrows.now (length c.args.out.now)
    c.args.done.now c.args.waits.now c.args.free.now.items c.args.ready.now.keys c.args.step c.requires.counted
    c.requires.ready c.if-done-step.false c.finish.new.waits c.finish.new.free.items c.in_ok-finish.ensures.released)

other : (c : goal.In_ok-finish) → ¬ (IsListing c.args.step)
other c = λ l. true≢false (sym (c.is_listing.ensures.1 l) ∙ c.if-is_listing.false)

pub returns-clause-ready : goal.returns-clause-ready
returns-clause-ready c = rw c.finish.ensures.done (free_ready c.args.arrows.now (length c.args.out.now)
    c.args.done.now c.args.waits.now c.args.free.now.items c.args.ready.now.keys c.args.step c.requires.counted
    c.requires.ready c.if-done-step.false (other c))

pub returns-clause-listings : goal.returns-clause-listings
returns-clause-listings c = rw c.finish.ensures.done (free_listings c.args.arrows.now (length c.args.out.now)
    c.args.done.now c.args.waits.now c.args.free.now.items c.args.ready.now.keys c.args.step c.requires.counted
    c.requires.ready c.if-done-step.false (other c))

pub returns-clause-lighter : goal.returns-clause-lighter
returns-clause-lighter c =
    let n = free_within c.args.arrows.now (length c.args.out.now) c.args.done.now c.args.waits.now
    c.args.free.now.items c.args.ready.now.keys c.args.step c.requires.counted c.requires.ready in
    let e = c.requires.counted.marks in
    let within : c.args.step < length c.args.done.now = omega (arith, n, e) in
    rw c.finish.ensures.done (turn_more c.args.arrows.now c.args.step (count_by not c.args.done.now)
    (count_by not (set c.args.done.now c.args.step true)) (length c.args.free.now.items)
    (length c.finish.new.free.items) (fewer_unmarked c.args.done.now c.args.step within c.if-done-step.false)
    c.in_ok-finish.ensures.released.room)
