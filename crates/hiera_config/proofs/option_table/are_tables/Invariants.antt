-- What is left tells what all of it tells.
use Rattle.std.proofs.Common.{◌≡◌, drop}
use Rattle.hiera_config.specs.Found.{source_views}
use Rattle.hiera_config.specs.OptionTables.{are_tables}
use Rattle.hiera_config.proofs.option_table.are_tables.Given as goal

abbrev pub invariant-loop-source : goal.invariant-loop-source
invariant-loop-source l = are_tables (source_views (drop l.source-index l.sources)) ≡ are_tables (source_views l.sources)
