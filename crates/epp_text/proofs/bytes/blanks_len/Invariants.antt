use Rattle.std.proofs.Common.{◌≡◌, ◌+◌, ◌-◌, ◌<◌, drop, get_or}
use Rattle.epp_text.specs.Pieces.{blanks_len}
use Rattle.epp_text.proofs.bytes.blanks_len.Given as goal

abbrev pub invariant-loop-at : goal.invariant-loop-at
invariant-loop-at l = record {
  value : l.at + blanks_len (drop l.at l.bytes) ≡ blanks_len l.bytes;
  ascii : 0 < l.at → get_or l.bytes (l.at - 1) 0 < 128;
}
