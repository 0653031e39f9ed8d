-- What is left is to be compared with the rest, in capitals where the last byte asks for one.
use Rattle.std.proofs.Common.{◌≡◌, ℕ, List, ◌++◌, length}
use Rattle.pp_values.specs.Rising.{text_cmp}
use Rattle.pp_values.specs.Words.{kind_text, capitalised_after}
use Rattle.agent_machine.proofs.call_text.meet_kind.Given as goal

abbrev pub invariant-loop-left : goal.invariant-loop-left
invariant-loop-left l =
    (more : List ℕ) → text_cmp (kind_text l.kind ++ more) l.other
    ≡ text_cmp (capitalised_after l.last l.left ++ more) l.rest

abbrev pub decreases-loop-left : goal.decreases-loop-left
decreases-loop-left l = length l.left
