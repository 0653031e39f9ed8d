use Rattle.std.proofs.Common.{option_copied, arith}
use Rattle.std.proofs.lemmas.Grind.{common_steps}
use Rattle.export_store.proofs.QueryLemmas.{found-skipped, found-taken}
use Rattle.export_store.proofs.queries.push_from_rows.Goals as goal
use Rattle.export_store.proofs.queries.push_from_rows.Goals.{then-ne+in_ok-push_places, else-ne}

pub loop-row-preserved : goal.loop-row-preserved
loop-row-preserved c =
    let taken = found-taken c.args.kind.now (option_copied c.args.tag) c.args.but_node.now c.args.rows.now c.loop-row.row-index c.row-item.result c.loop-row-test.true c.row-item.is in
    let skipped = found-skipped c.args.kind.now (option_copied c.args.tag) c.args.but_node.now c.args.rows.now c.loop-row.row-index c.row-item.result c.loop-row-test.true c.row-item.is in
    elim c.if-ne.branch [
      | then-ne+in_ok-push_places w ↦ grind (arith, common_steps, taken, c.loop-row.invariant, w.in_ok-push_places.ensures)
      | else-ne w ↦ grind (arith, common_steps, skipped, c.loop-row.invariant)
    ]
