use Rattle.std.proofs.Common.{◌⊎◌, length, ap, ◌∙◌, subst, arith}
use Rattle.http_wire.specs.declared.places.Place.TheVariants.{Blank}
use Rattle.http_wire.specs.Messages.{HasNone, IsNoHead, IsCrowded}
use Rattle.http_wire.specs.Places.{after}
use Rattle.site_io.proofs.Streams.{Rose-after}
use Rattle.http_wire.proofs.Gathering.{nothing_gathered, then_more, then_nothing, then_failed, lost_now, lost_read}
use Rattle.http_wire.proofs.Fronts.{none_without_head, place_moves}
use Rattle.http_wire.proofs.Deciding.{no_head_within}
use Rattle.http_wire.proofs.reading.gather_head.Goals as goal

pub loop-alloc-init : goal.loop-alloc-init
loop-alloc-init g c = record {
  gathered = nothing_gathered _ _;
  place_is = c.after-place.ensures ∙ ap (after Blank) c.as_slice.ensures;
}

pub returns-in-Never : goal.returns-in-Never
returns-in-Never g c = (
  c.loop-alloc.invariant.gathered,
  no_head_within _ (omega arith)
      (subst (λ l. IsNoHead l ⊎ IsCrowded l) c.as_slice-in-loop-alloc.ensures c.in-Never.ensures),
)

pub returns-in-NoMemory : goal.returns-in-NoMemory
returns-in-NoMemory g c = lost_now c.loop-alloc.invariant.gathered

pub returns-in-Ended : goal.returns-in-Ended
returns-in-Ended g c =
    let e = c.in-Ended.ensures in
    let same = ap length e.0 in (
      then_nothing c.loop-alloc.invariant.gathered
          (subst HasNone c.as_slice-in-loop-alloc.ensures (none_without_head _ c.in-Open.ensures)) e.0 e.1,
      omega (arith, same),
      e.2,
    )

pub returns-in-Failed : goal.returns-in-Failed
returns-in-Failed g c =
    let e = c.in-Failed.ensures in
    let same = ap length e.0 in
    (then_failed c.loop-alloc.invariant.gathered e.0 e.1, omega (arith, same), Rose-after _ _ _ c.loop-alloc.invariant.gathered.read.later e.1.rose)

pub returns-in-Memory : goal.returns-in-Memory
returns-in-Memory g c =
    lost_read c.loop-alloc.invariant.gathered
    (subst HasNone c.as_slice-in-loop-alloc.ensures (none_without_head _ c.in-Open.ensures)) c.in-Memory.ensures.1

pub loop-alloc-preserved : goal.loop-alloc-preserved
loop-alloc-preserved g c =
    let e = c.in-Done.ensures in
    record {
      gathered = then_more c.loop-alloc.invariant.gathered (subst HasNone c.as_slice-in-loop-alloc.ensures (none_without_head _ c.in-Open.ensures)) e.1 e.2 e.3;
      place_is = c.after-place-in-Done.ensures
          ∙ place_moves _ _ _ _ _ c.loop-alloc.invariant.place_is (c.as_slice-in-Done.ensures ∙ e.1) c.len-count.ensures
          ∙ ap (after Blank) c.as_slice-in-Done.ensures;
    }
