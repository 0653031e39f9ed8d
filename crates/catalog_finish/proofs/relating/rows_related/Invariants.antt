use Rattle.std.proofs.Common.{◌≡◌, drop}
use Rattle.pp_values.specs.Answers.{in_turn}
use Rattle.catalog_finish.specs.Relating.{row_step, numbered, rows_related}
use Rattle.catalog_finish.specs.Sources.{sources_of}
use Rattle.catalog_finish.proofs.relating.rows_related.Given as goal

abbrev pub invariant-loop-number : goal.invariant-loop-number
invariant-loop-number l =
    in_turn (row_step (sources_of l.tables)) l.edges (numbered l.number (drop l.number l.tables.book.now))
    ≡ rows_related (sources_of l.tables) l.fn.edges
