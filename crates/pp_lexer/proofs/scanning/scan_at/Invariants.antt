use Rattle.std.proofs.Common.{◌≡◌, ◌+◌, ◌≤◌, ◌++◌, length, IsUtf8}
use Rattle.pp_lexer.specs.Tokens.{tokens_at, tokens_from}
use Rattle.pp_lexer.proofs.scanning.scan_at.Given as goal

abbrev pub invariant-loop-rest : goal.invariant-loop-rest
invariant-loop-rest l = record {
  read : l.tokens ++ tokens_from l.here l.mode l.nest 0 l.rest ≡ tokens_at l.line l.text;
  fits : l.here + length l.rest ≤ l.line + length l.text;
  utf8 : IsUtf8 l.rest;
}

abbrev pub decreases-loop-rest : goal.decreases-loop-rest
decreases-loop-rest l = length l.rest
