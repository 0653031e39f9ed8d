use Rattle.std.proofs.Common.{◌≡◌, drop}
use Rattle.epp_text.specs.Pieces.{close_from}
use Rattle.epp_text.proofs.tags.close_from.Given as goal

abbrev pub invariant-loop-at : goal.invariant-loop-at
invariant-loop-at l = close_from l.at (drop l.at l.bytes) ≡ close_from l.from (drop l.from l.bytes)
