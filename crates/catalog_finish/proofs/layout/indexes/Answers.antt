use Rattle.std.proofs.Common.{sym, ap, ◌∙◌, arith}
use Rattle.catalog_finish.proofs.LayoutLemmas.{taken_turn, passed_turn}
use Rattle.catalog_finish.proofs.layout.indexes.Goals as goal
use Rattle.catalog_finish.proofs.layout.indexes.Goals.{then-live+in_ok-push, else-live+in_ok-push-2}

pub loop-number-preserved : goal.loop-number-preserved
loop-number-preserved c = elim c.if-live.branch [
  | then-live+in_ok-push w ↦ record {
    all = taken_turn c.args.book.now c.loop-number.number c.loop-number.next c.if-live.next _ _ _
        (omega (arith, c.loop-number-test.true, c.count-number-end.ensures)) (sym c.live.ensures ∙ w.if-live.true)
        (ap (λ v. v.items) w.indexes-is ∙ w.in_ok-push.ensures.items) w.next-is c.loop-number.invariant.all;
    few = omega (arith, w.next-is, c.loop-number.invariant.few);
  }
  | else-live+in_ok-push-2 w ↦ record {
    all = passed_turn c.args.book.now c.loop-number.number c.loop-number.next c.if-live.next _ _ _
        (omega (arith, c.loop-number-test.true, c.count-number-end.ensures)) (sym c.live.ensures ∙ w.if-live.false)
        (ap (λ v. v.items) w.indexes-is ∙ w.in_ok-push-2.ensures.items) w.next-is c.loop-number.invariant.all;
    few = omega (arith, w.next-is, c.loop-number.invariant.few);
  }
]
