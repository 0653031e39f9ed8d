use Rattle.std.proofs.Common.{◌≡◌, drop}
use Rattle.pp_values.specs.Answers.{in_turn}
use Rattle.catalog_finish.specs.Relating.{operand_step, side_of}
use Rattle.catalog_finish.specs.Sources.{sources_of}
use Rattle.catalog_finish.proofs.relating.side_of.Given as goal

abbrev pub invariant-loop-operand : goal.invariant-loop-operand
invariant-loop-operand l =
    in_turn (operand_step (sources_of l.tables) l.at) l.found (drop l.operand-index l.operands)
    ≡ side_of (sources_of l.tables) l.at l.operands
