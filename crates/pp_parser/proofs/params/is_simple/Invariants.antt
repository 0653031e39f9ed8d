use Rattle.std.proofs.Common.{◌≡◌, length}
use Rattle.pp_parser.specs.Params.{is_simple}
use Rattle.pp_parser.proofs.params.is_simple.Given as goal

abbrev pub invariant-loop-rest : goal.invariant-loop-rest
invariant-loop-rest l = is_simple l.rest ≡ is_simple l.name

abbrev pub decreases-loop-rest : goal.decreases-loop-rest
decreases-loop-rest l = length l.rest
