-- The fault where a resource of a catalog stands inside itself or comes before itself.
use Rattle.std.specs.Prelude.{ℕ, ⊤, List, [], ◌∷◌, ◌++◌, map, length, Option, None, Some, option_and_then}
use Rattle.std.specs.Prelude.{option_to_list, slice_get, Result, Ok, Err}
use Rattle.pp_values.specs.Faults.{fault}
use Rattle.pp_values.specs.declared.fault.Fault.{Fault}
use Rattle.pp_values.specs.declared.fault.What.TheVariants.{Cycle}
use Rattle.rel_graph.specs.CatalogPairs.{containment, relations}
use Rattle.rel_graph.specs.FirstCycles.{cycle_in}
use Rattle.res_core.specs.declared.edge.Edge.{Edge}
use Rattle.res_core.specs.declared.held.Held.{Held}
use Rattle.res_book.specs.Rows.{reference_of}
use Rattle.res_book.specs.declared.row.Row.{Row}
use Rattle.catalog_finish.specs.Layouts.{live_numbers}

-- the declarations at these indexes
abbrev pub rows_at : List Row → List ℕ → List ℕ → List Row
rows_at rows numbers [] = []
rows_at rows numbers (i ∷ is) =
    option_to_list (option_and_then (slice_get rows) (slice_get numbers i)) ++ rows_at rows numbers is

-- F18 at the first of these, each of which contains the next, and the last one the first
abbrev pub cycle_told : List Row → Result ⊤ Fault
cycle_told [] = Ok tt
cycle_told (r ∷ rs) = Err (fault r.declared.at (Cycle (map (λ x. reference_of x.declared) (r ∷ rs))))

abbrev pub cycle_found : List Row → Option (List ℕ) → Result ⊤ Fault
cycle_found rows None = Ok tt
cycle_found rows (Some cycle) = cycle_told (rows_at rows (live_numbers rows) cycle)

-- nothing stands inside itself, and nothing comes before itself
abbrev pub order_checked : List Row → List Held → List Edge → Result ⊤ Fault
order_checked rows hs edges = cycle_found rows (cycle_in (containment hs) (relations edges) (length hs))
