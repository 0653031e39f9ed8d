use Rattle.std.proofs.Common.{◌≡◌, ◌-◌, ◌<◌, true, drop, get_or}
use Rattle.pp_lexer.specs.Words.{word_end, word_len}
use Rattle.pp_lexer.proofs.words.word_len.Given as goal

abbrev pub invariant-loop-at : goal.invariant-loop-at
invariant-loop-at l = record {
  value : word_end l.sort l.is_second l.at (drop l.at l.bytes) ≡ word_len l.sort l.bytes;
  ascii : get_or l.bytes (l.at - 1) 0 < 128;
  second : l.is_second ≡ true → get_or l.bytes l.at 0 ≡ 58;
}
