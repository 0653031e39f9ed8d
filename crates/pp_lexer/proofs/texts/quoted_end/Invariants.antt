use Rattle.std.proofs.Common.{◌≡◌, drop, false}
use Rattle.pp_lexer.specs.Texts.{quoted_end}
use Rattle.pp_lexer.proofs.texts.quoted_end.Given as goal

abbrev pub invariant-loop-at : goal.invariant-loop-at
invariant-loop-at l = quoted_end l.is_taken l.at (drop l.at l.bytes) ≡ quoted_end false l.from (drop l.from l.bytes)
