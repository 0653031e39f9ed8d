use Rattle.std.proofs.Common.{◌≡◌, drop}
use Rattle.pp_values.specs.Answers.{in_turn}
use Rattle.catalog_finish.specs.Relating.{line_step, lines_related}
use Rattle.catalog_finish.specs.Sources.{sources_of}
use Rattle.catalog_finish.proofs.relating.lines_related.Given as goal

abbrev pub invariant-loop-line : goal.invariant-loop-line
invariant-loop-line l =
    in_turn (line_step (sources_of l.tables)) l.edges (drop l.line-index l.lines)
    ≡ lines_related (sources_of l.tables) l.lines
