use Rattle.std.proofs.Common.{◌≡◌, drop}
use Rattle.pp_lexer.specs.Bytes.{comment_end}
use Rattle.pp_lexer.proofs.bytes.comment_end.Given as goal

abbrev pub invariant-loop-at : goal.invariant-loop-at
invariant-loop-at l = comment_end l.at (drop l.at l.bytes) ≡ comment_end l.from (drop l.from l.bytes)
