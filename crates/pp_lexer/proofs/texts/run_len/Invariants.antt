use Rattle.std.proofs.Common.{◌≡◌, drop}
use Rattle.pp_lexer.specs.Texts.{run_end, run_len}
use Rattle.pp_lexer.proofs.texts.run_len.Given as goal

abbrev pub invariant-loop-at : goal.invariant-loop-at
invariant-loop-at l = run_end l.is_taken l.at (drop l.at l.bytes) ≡ run_len l.bytes
