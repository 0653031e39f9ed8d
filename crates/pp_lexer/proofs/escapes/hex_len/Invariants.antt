use Rattle.std.proofs.Common.{◌≡◌, ◌+◌, drop}
use Rattle.std.specs.Char.{is_ascii_hexdigit}
use Rattle.std.specs.List.{prefix_len}
use Rattle.pp_lexer.proofs.escapes.hex_len.Given as goal

abbrev pub invariant-loop-at : goal.invariant-loop-at
invariant-loop-at l = l.at + prefix_len is_ascii_hexdigit (drop l.at l.bytes) ≡ prefix_len is_ascii_hexdigit l.bytes
