use Rattle.catalog_finish.proofs.RelatingLemmas.{joined_turn, joined_end}
use Rattle.catalog_finish.proofs.edge_table.EdgeTable.join.Goals as goal

pub loop-from-preserved : goal.loop-from-preserved
loop-from-preserved c =
    joined_turn c.loop-from.self _ c.loop-from.from-index _ c.args.left.now c.args.right.now c.args.signal _
    c.loop-from-test.true c.in_ok-put_from.ensures c.loop-from.invariant

pub returns : goal.returns
returns c =
    joined_end c.loop-from.self c.loop-from.from-index c.args.left.now c.args.right.now c.args.signal _
    c.loop-from-test.false c.loop-from.invariant
