use Rattle.std.proofs.Common.{◌≡◌, ◌+◌, ◌≤◌, drop}
use Rattle.epp_text.specs.Pieces.{line_behind}
use Rattle.epp_text.proofs.bytes.line_behind.Given as goal

abbrev pub invariant-loop-b : goal.invariant-loop-b
invariant-loop-b l = record {
  value : line_behind l.line (drop l.b-index l.bytes) ≡ line_behind l.fn.line l.bytes;
  fits : l.line ≤ l.fn.line + l.b-index;
}
