use Rattle.catalog_finish.proofs.RelatingLemmas.{from_turn, from_end}
use Rattle.catalog_finish.proofs.edge_table.EdgeTable.put_from.Goals as goal

pub loop-to-preserved : goal.loop-to-preserved
loop-to-preserved c =
    from_turn c.loop-to.self _ c.args.from c.loop-to.to-index _ c.args.right.now c.args.signal _ c.loop-to-test.true
    c.in_ok-put.ensures c.loop-to.invariant

pub returns : goal.returns
returns c =
    from_end c.loop-to.self c.args.from c.loop-to.to-index c.args.right.now c.args.signal _ c.loop-to-test.false
    c.loop-to.invariant
