use Rattle.std.proofs.Common.{ap, ◌∙◌, length}
use Rattle.defined_types.proofs.Watches.{told_all, told_more}
use Rattle.defined_types.proofs.watchlist.told_each.Goals as goal

pub loop-number-preserved : goal.loop-number-preserved
loop-number-preserved c =
    told_more _ _ _ _ _ _ _ _ _ _ c.loop-number.invariant c.loop-number-test.true c.told_at-before.ensures
    c.touched_at-touched.ensures c.told_now.ensures c.in_ok-push.ensures.items

pub returns : goal.returns
returns c =
    told_all _ _ _ _ _ _ _ c.loop-number.invariant c.loop-number-test.false
    (c.count-count.ensures ∙ ap length c.book.ensures)
