use Rattle.std.proofs.Common.{sym, ◌∙◌}
use Rattle.journal_reading.proofs.ItemSteps.{export_found}
use Rattle.journal_reading.proofs.exports.exports_said.Goals as goal

pub loop-left-preserved : goal.loop-left-preserved
loop-left-preserved c =
    export_found _ _ _ _ _ c.in-len1-up.len_at_least c.item-item.is (sym c.in-Some.is ∙ c.in_ok-exported.ensures)
    c.in_ok-push-in-Some.ensures.ok
    ∙ c.loop-left.invariant
