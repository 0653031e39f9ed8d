use Rattle.std.proofs.Common.{◌≡◌, ◌+◌, ◌≤◌, ◌++◌, length, IsUtf8}
use Rattle.epp_text.specs.Pieces.{pieces_of, pieces_from}
use Rattle.epp_text.proofs.pieces.pieces_of.Given as goal

abbrev pub invariant-loop-rest : goal.invariant-loop-rest
invariant-loop-rest l = record {
  read : l.found ++ pieces_from l.line l.begins 0 l.rest ≡ pieces_of l.text;
  fits : l.line + length l.rest ≤ 1 + length l.text;
  utf8 : IsUtf8 l.rest;
}

abbrev pub decreases-loop-rest : goal.decreases-loop-rest
decreases-loop-rest l = length l.rest
