use Rattle.std.proofs.Common.{arith}
use Rattle.catalog_finish.proofs.BelowLemmas.{told_first}
use Rattle.catalog_finish.proofs.containment.cycle_told.Goals as goal

pub returns-in_ok-new-in-len1-up : goal.returns-in_ok-new-in-len1-up
returns-in_ok-new-in-len1-up c =
    told_first c.args.rows.now c.first-item.result _ _ _ (omega (arith, c.in-len1-up.len_at_least)) c.first-item.is
    c.in_ok-at-in-len1-up.ensures c.in_ok-references-in-len1-up.ensures c.in_ok-new-in-len1-up.ensures
