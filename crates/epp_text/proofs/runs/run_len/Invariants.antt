use Rattle.std.proofs.Common.{◌≡◌, drop}
use Rattle.epp_text.specs.Pieces.{run_end, run_len}
use Rattle.epp_text.proofs.runs.run_len.Given as goal

abbrev pub invariant-loop-at : goal.invariant-loop-at
invariant-loop-at l = run_end l.at (drop l.at l.bytes) ≡ run_len l.bytes
