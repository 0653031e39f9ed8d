use Rattle.wide_apply.proofs.FiledLemmas.{none_filed}
use Rattle.wide_apply.proofs.filed.no_lines.Goals as goal

pub returns-clause-none : goal.returns-clause-none
returns-clause-none c = none_filed c.loop-at.slots.items c.loop-at.invariant.none
