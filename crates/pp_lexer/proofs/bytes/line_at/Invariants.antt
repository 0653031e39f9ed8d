use Rattle.std.proofs.Common.{◌≡◌, ◌+◌, ◌≤◌, drop}
use Rattle.pp_lexer.specs.Bytes.{line_at}
use Rattle.pp_lexer.proofs.bytes.line_at.Given as goal

abbrev pub invariant-loop-b : goal.invariant-loop-b
invariant-loop-b l = record { value : line_at l.line (drop l.b-index l.bytes) ≡ line_at l.fn.line l.bytes; fits : l.line ≤ l.fn.line + l.b-index }
