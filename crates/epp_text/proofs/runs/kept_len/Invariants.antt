use Rattle.std.proofs.Common.{◌≡◌, ◌≤◌, drop}
use Rattle.epp_text.specs.Pieces.{kept_from}
use Rattle.epp_text.proofs.runs.kept_len.Given as goal

abbrev pub invariant-loop-at : goal.invariant-loop-at
invariant-loop-at l =
    record { value : kept_from l.kept l.at (drop l.at l.bytes) ≡ kept_from 0 0 l.bytes; within : l.kept ≤ l.at }
