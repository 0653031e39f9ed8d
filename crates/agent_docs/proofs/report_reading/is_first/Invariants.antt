use Rattle.std.proofs.Common.{◌≡◌, not, length}
use Rattle.std.specs.List.{list_all}
use Rattle.agent_docs.specs.ReportText.{was_noop}
use Rattle.agent_docs.proofs.report_reading.is_first.Given as goal

abbrev pub invariant-loop-left : goal.invariant-loop-left
invariant-loop-left l = list_all (λ x. not (was_noop x)) l.left ≡ list_all (λ x. not (was_noop x)) l.lines

abbrev pub decreases-loop-left : goal.decreases-loop-left
decreases-loop-left l = length l.left
