-- The exports copied so far are those before the index.
use Rattle.std.proofs.Common.{◌≡◌, take}
use Rattle.history_tools.proofs.copying.copy_set.Given as goal

abbrev pub invariant-loop-exported : goal.invariant-loop-exported
invariant-loop-exported l = l.items.items ≡ take l.exported-index l.exported-items
