use Rattle.std.proofs.Common.{arith}
use Rattle.catalog_finish.proofs.LayoutLemmas.{none_turn}
use Rattle.catalog_finish.proofs.layout.no_outers.Goals as goal

pub loop-number-preserved : goal.loop-number-preserved
loop-number-preserved c =
    none_turn c.args.book.now c.loop-number._number _ _ _ _
    (omega (arith, c.loop-number-test.true, c.count-number-end.ensures)) c.in_ok-push.ensures.items c.new.ensures.items
    c.loop-number.invariant
