use Rattle.std.proofs.Common.{[], ◌∷◌, sym, subst, append-nil, arith}
use Rattle.site_batch.specs.Answers.{AreFilled}
use Rattle.site_batch.proofs.Slots.{none_filled, one_filled, taken, place_of}
use Rattle.site_batch.proofs.order.filled.Goals as goal

pub loop-answer-init : goal.loop-answer-init
loop-answer-init g c = ([], sym (append-nil c.args.answers.items), none_filled c.args.count _ c.requires.slots)

pub put_reply-requires : goal.put_reply-requires
put_reply-requires g c =
    let is = taken _ _ _ c.loop-answer.invariant.0 c.in-Some.answer c.loop-answer.invariant.1 c.in-Some.ensures.items in
    let place = place_of c.args.count c.args.answers.items c.pop.new.self.items c.loop-answer.invariant.0
    c.in-Some.answer c.requires.all is in
    let size = c.loop-answer.invariant.2.count_is in
    omega (arith, place.0, size)

pub loop-answer-preserved : goal.loop-answer-preserved
loop-answer-preserved g c =
    let is = taken _ _ _ c.loop-answer.invariant.0 c.in-Some.answer c.loop-answer.invariant.1 c.in-Some.ensures.items in (
      c.in-Some.answer ∷ c.loop-answer.invariant.0,
      is,
      subst (AreFilled c.args.count (c.in-Some.answer ∷ c.loop-answer.invariant.0)) (sym c.put_reply.ensures)
          (one_filled c.args.count c.args.answers.items c.pop.new.self.items c.loop-answer.invariant.0 c.in-Some.answer _
          c.requires.all is c.loop-answer.invariant.2),
    )
