use Rattle.std.proofs.Common.{◌≡◌, length, map}
use Rattle.pp_lexer.specs.Words.{named}
use Rattle.pp_lexer.proofs.words.named.Given as goal

abbrev pub invariant-loop-table : goal.invariant-loop-table
invariant-loop-table l = named (map (λ w. (w.0.now, w.1)) l.table) l.spelling ≡ named (map (λ w. (w.0.now, w.1)) l.initial.table) l.spelling

abbrev pub decreases-loop-table : goal.decreases-loop-table
decreases-loop-table l = length l.table
