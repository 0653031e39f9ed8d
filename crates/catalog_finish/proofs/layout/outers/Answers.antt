use Rattle.catalog_finish.proofs.LayoutLemmas.{pair_turn, pairs_end}
use Rattle.catalog_finish.proofs.layout.outers.Goals as goal

pub loop-pair-preserved : goal.loop-pair-preserved
loop-pair-preserved c =
    pair_turn c.args.pairs.now c.loop-pair.pair-index _ _ _ _ c.loop-pair-test.true
    c.in_ok-put_outer.ensures c.loop-pair.invariant

pub returns : goal.returns
returns c = pairs_end c.args.pairs.now c.loop-pair.pair-index _ _ c.loop-pair-test.false c.loop-pair.invariant
