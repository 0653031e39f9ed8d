use Rattle.std.proofs.Common.{◌≡◌, ◌++◌, drop}
use Rattle.catalog_finish.specs.Layouts.{of_live}
use Rattle.catalog_finish.specs.Relating.{taken_index, taken}
use Rattle.catalog_finish.specs.Sources.{sources_of}
use Rattle.catalog_finish.proofs.collecting.taken.Given as goal

abbrev pub invariant-loop-number : goal.invariant-loop-number
invariant-loop-number l =
    l.found ++ of_live (taken_index (sources_of l.tables) l.collector) l.number (drop l.number l.tables.book.now)
    ≡ taken (sources_of l.tables) l.collector
