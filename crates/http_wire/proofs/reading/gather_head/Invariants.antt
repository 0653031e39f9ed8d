use Rattle.std.proofs.Common.{◌≡◌, ◌-◌, length}
use Rattle.http_wire.specs.declared.places.Place.TheVariants.{Blank}
use Rattle.http_wire.specs.Messages.{most_head, HasNone}
use Rattle.http_wire.specs.Places.{after}
use Rattle.http_wire.specs.Reading.{HasGathered}
use Rattle.http_wire.proofs.reading.gather_head.Given as goal

abbrev pub invariant-loop-alloc : goal.invariant-loop-alloc
invariant-loop-alloc g l = record {
  gathered : HasGathered HasNone l.fn.rest l.rest (g.S.Outside.stream l.fn.from) (g.S.Outside.stream l.from);
  place_is : l.place ≡ after Blank l.rest;
}

abbrev pub decreases-loop-alloc : goal.decreases-loop-alloc
decreases-loop-alloc g l = most_head - length l.rest
