-- What is left is to be compared with the rest.
use Rattle.std.proofs.Common.{◌≡◌, ℕ, List, ◌++◌, length}
use Rattle.pp_values.specs.Rising.{text_cmp}
use Rattle.agent_machine.proofs.call_text.meet.Given as goal

abbrev pub invariant-loop-left : goal.invariant-loop-left
invariant-loop-left l =
    (more : List ℕ) → text_cmp (l.piece ++ more) l.other ≡ text_cmp (l.left ++ more) l.rest

abbrev pub decreases-loop-left : goal.decreases-loop-left
decreases-loop-left l = length l.left
