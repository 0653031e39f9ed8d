use Rattle.std.proofs.Common.{◌≡◌, ◌+◌, ◌-◌, ◌<◌, drop, get_or}
use Rattle.std.specs.List.{prefix_len}
use Rattle.pp_lexer.specs.Bytes.{is_white}
use Rattle.pp_lexer.proofs.bytes.white_len.Given as goal

abbrev pub invariant-loop-at : goal.invariant-loop-at
invariant-loop-at l = record {
  value : l.at + prefix_len is_white (drop l.at l.bytes) ≡ prefix_len is_white l.bytes;
  ascii : get_or l.bytes (l.at - 1) 0 < 128;
}
