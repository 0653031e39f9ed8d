-- What is there, and then what is left, are all texts put in order.
use Rattle.std.proofs.Common.{◌≡◌, length}
use Rattle.pp_values.specs.Rising.{with_texts, sorted}
use Rattle.agent_machine.proofs.failing_texts.FailingTexts.from_texts.Given as goal

abbrev pub invariant-loop-left : goal.invariant-loop-left
invariant-loop-left l = with_texts l.in_order.keys l.left ≡ sorted l.fn.texts

abbrev pub decreases-loop-left : goal.decreases-loop-left
decreases-loop-left l = length l.left
