-- What relations are read by.
use Rattle.std.specs.Prelude.{List}
use Rattle.res_book.specs.declared.collector.Collector.{Collector}
use Rattle.res_book.specs.declared.row.Row.{Row}
use Rattle.override_rules.specs.Meaning.{State}
use Rattle.catalog_finish.specs.Layouts.{Layout}
use Rattle.catalog_finish.specs.declared.tables.Tables.{Tables}

pub record Sources : Type 0 where
  pub state : State
  pub rows : List Row
  pub layout : Layout
  pub collectors : List Collector

abbrev pub sources_of : Tables → Sources
sources_of t =
    record { state = t.lines.now; rows = t.book.now; layout = t.layout.now; collectors = t.collectors.now }
