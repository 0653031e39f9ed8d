use Rattle.std.proofs.Common.{sym, ap, ◌∙◌, arith}
use Rattle.catalog_finish.proofs.LayoutLemmas.{number_taken, number_passed}
use Rattle.catalog_finish.proofs.containment.numbers.Goals as goal
use Rattle.catalog_finish.proofs.containment.numbers.Goals.{then-live+in_ok-push, else-live}

pub loop-number-preserved : goal.loop-number-preserved
loop-number-preserved c = elim c.if-live.branch [
  | then-live+in_ok-push w ↦
      number_taken c.args.book.now c.loop-number.number _ _ _
      (omega (arith, c.loop-number-test.true, c.count-number-end.ensures)) (sym c.live.ensures ∙ w.if-live.true)
      (ap (λ v. v.items) w.numbers-is ∙ w.in_ok-push.ensures.items) c.loop-number.invariant
  | else-live w ↦
      number_passed c.args.book.now c.loop-number.number _ _ _
      (omega (arith, c.loop-number-test.true, c.count-number-end.ensures)) (sym c.live.ensures ∙ w.if-live.false)
      (ap (λ v. v.items) w.numbers-is) c.loop-number.invariant
]
