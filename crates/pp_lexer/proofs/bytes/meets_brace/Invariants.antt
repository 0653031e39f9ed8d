use Rattle.std.proofs.Common.{◌≡◌, length}
use Rattle.pp_lexer.specs.Bytes.{meets_brace}
use Rattle.pp_lexer.proofs.bytes.meets_brace.Given as goal

abbrev pub invariant-loop-rest : goal.invariant-loop-rest
invariant-loop-rest l = meets_brace 0 l.rest ≡ meets_brace 0 l.bytes

abbrev pub decreases-loop-rest : goal.decreases-loop-rest
decreases-loop-rest l = length l.rest
