-- What becomes of the tables of a compile.
use Rattle.std.specs.Prelude.{ℕ, ⊤, Bool, false, List, [], find, Option, None, Some, is_none, length, Result, Ok, Err}
use Rattle.pp_values.specs.Answers.{and_then}
use Rattle.pp_values.specs.Faults.{fault}
use Rattle.pp_values.specs.declared.fault.Fault.{Fault}
use Rattle.pp_values.specs.declared.fault.What.TheVariants.{NoOverrideTarget}
use Rattle.pp_values.specs.declared.reference.Reference.{Reference}
use Rattle.res_core.specs.declared.catalog.Catalog.{Catalog}
use Rattle.res_core.specs.declared.edge.Edge.{Edge}
use Rattle.res_core.specs.declared.export_set.ExportSet.{ExportSet}
use Rattle.res_core.specs.declared.held.Held.{Held}
use Rattle.res_book.specs.Relations.{Related}
use Rattle.res_book.specs.Rows.{number_of}
use Rattle.res_book.specs.declared.collector.Collector.{Collector}
use Rattle.res_book.specs.declared.row.Row.{Row}
use Rattle.override_rules.specs.Lines.{Line}
use Rattle.override_rules.specs.Meaning.{State, orphan}
use Rattle.catalog_finish.specs.Catalogs.{resources}
use Rattle.catalog_finish.specs.Containing.{order_checked}
use Rattle.catalog_finish.specs.EdgeTables.{edges_of}
use Rattle.catalog_finish.specs.Exporting.{exports}
use Rattle.catalog_finish.specs.Layouts.{layout_of}
use Rattle.catalog_finish.specs.Naming.{names_checked}
use Rattle.catalog_finish.specs.Relating.{related_pairs}
use Rattle.catalog_finish.specs.Sources.{Sources}

-- F16 at the first override line whose target is not declared, or is a class
abbrev pub lines_told : Option Line → Result ⊤ Fault
lines_told None = Ok tt
lines_told (Some l) = Err (fault l.at (NoOverrideTarget l.target))

abbrev pub lines_checked : List Row → State → Result ⊤ Fault
lines_checked rows s = lines_told (orphan rows s)

-- F16 at the first collector of `realize` whose one resource is not declared
abbrev pub is_missing : List Row → Option Reference → Bool
is_missing rows None = false
is_missing rows (Some q) = is_none (number_of q rows)

abbrev pub realized_told : Collector → Option Reference → Result ⊤ Fault
realized_told c None = Ok tt
realized_told c (Some q) = Err (fault c.at (NoOverrideTarget q))

abbrev pub missing_told : Option Collector → Result ⊤ Fault
missing_told None = Ok tt
missing_told (Some c) = realized_told c c.realized

abbrev pub realized_checked : List Row → List Collector → Result ⊤ Fault
realized_checked rows cs = missing_told (find (λ c. is_missing rows c.realized) cs)

abbrev pub sources : State → List Row → Related → Sources
sources s rows related = record {
  state = s;
  rows = rows;
  layout = layout_of rows related.containments;
  collectors = related.collectors;
}

abbrev pub catalog_with : List ℕ → List Held → List Edge → Catalog
catalog_with node hs edges = record { node = node; resources = hs; edges = edges; log = [] }

-- with the resources and what comes before what: the order is tested, and then the exports
abbrev pub put_together : State → List Row → List ℕ → List Held → List Edge → Result (Catalog × ExportSet) Fault
put_together s rows node hs edges =
    and_then (order_checked rows hs edges) (λ _.
    and_then (exports s rows) (λ es.
    Ok (catalog_with node hs edges, record { items = es })))

-- The tests in this order, and then the node's catalog, with an empty log, and its exports.
abbrev pub finished : State → List Row → Related → List ℕ → Result (Catalog × ExportSet) Fault
finished s rows related node =
    and_then (lines_checked rows s) (λ _.
    and_then (realized_checked rows related.collectors) (λ _.
    and_then (related_pairs (sources s rows related) related.lines) (λ pairs.
    and_then (names_checked s rows) (λ _.
    put_together s rows node (resources s (layout_of rows related.containments) rows)
    (edges_of (length (resources s (layout_of rows related.containments) rows)) pairs)))))
