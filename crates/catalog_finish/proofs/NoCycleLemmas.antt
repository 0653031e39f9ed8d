-- A finished catalog has no cycle: its tests were passed, and a cycle that is told is a fault.
use Rattle.std.proofs.Common.{◌≡◌, ◌⊎◌, ℕ, ◌+◌, ◌<◌, List, [], ◌∷◌, ◌++◌, length, map, Option, None, Some, Result, Ok, Err}
use Rattle.std.proofs.Common.{inl, inr, refl, sym, ap, subst, ◌∙◌, arith}
use Rattle.std.specs.Prelude.{⊤, option_and_then, option_to_list, slice_get}
use Rattle.pp_values.specs.Answers.{and_then}
use Rattle.pp_values.specs.declared.fault.Fault.{Fault}
use Rattle.rel_graph.proofs.CatalogLemmas.{related_below}
use Rattle.rel_graph.proofs.CycleLemmas.{in_starts, none_in}
use Rattle.rel_graph.specs.Before.{Direct}
use Rattle.rel_graph.specs.CatalogPairs.{containment, relations}
use Rattle.rel_graph.specs.Chains.{Paired}
use Rattle.rel_graph.specs.Cycles.{HasNoCycle}
use Rattle.rel_graph.specs.FirstCycles.{cycle_in}
use Rattle.rel_graph.specs.Pairs.{AllBelow}
use Rattle.res_book.specs.Relations.{Related}
use Rattle.res_book.specs.declared.row.Row.{Row}
use Rattle.res_core.specs.Catalogs.{is_between}
use Rattle.res_core.specs.declared.catalog.Catalog.{Catalog}
use Rattle.res_core.specs.declared.edge.Edge.{Edge}
use Rattle.res_core.specs.declared.export_set.ExportSet.{ExportSet}
use Rattle.res_core.specs.declared.held.Held.{Held}
use Rattle.override_rules.specs.Meaning.{State}
use Rattle.catalog_finish.specs.Catalogs.{held, resources}
use Rattle.catalog_finish.specs.Containing.{cycle_found, cycle_told, order_checked, rows_at}
use Rattle.catalog_finish.specs.EdgeTables.{Entry, edge_of, edges_of}
use Rattle.catalog_finish.specs.Exporting.{exports}
use Rattle.catalog_finish.specs.Finishing.{catalog_with, finished, lines_checked, put_together, realized_checked, sources}
use Rattle.catalog_finish.specs.Laws.{NoCycleIsLeft}
use Rattle.catalog_finish.specs.Layouts.{layout_of, live_numbers}
use Rattle.catalog_finish.specs.Naming.{names_checked}
use Rattle.catalog_finish.specs.Relating.{related_pairs}
use Rattle.catalog_finish.proofs.BelowLemmas.{live_count, live_there, resources_below, resources_long}
use Rattle.catalog_finish.proofs.KeptLemmas.{all_left}

-- ---- the first index of a cycle has a declaration

first_row : (rows : List Row) (cycle : List ℕ) (a : ℕ) (rest : List ℕ) → cycle ≡ a ∷ rest → a < live_count rows →
    (r : Row) × (more : List Row) × (rows_at rows (live_numbers rows) cycle ≡ r ∷ more)
first_row rows cycle a rest is h =
    let t = live_there rows 0 a h in
    let same : 0 + t.at ≡ t.at = omega arith in
    let found : option_and_then (slice_get rows) (Some t.at) ≡ Some t.row = t.has in
    let here : option_and_then (slice_get rows) (slice_get (live_numbers rows) a) ≡ Some t.row =
    ap (option_and_then (slice_get rows)) (t.numbered ∙ ap Some same) ∙ found in (
      t.row,
      rows_at rows (live_numbers rows) rest,
      ap (rows_at rows (live_numbers rows)) is
          ∙ ap (λ o. option_to_list o ++ rows_at rows (live_numbers rows) rest) here,
    )

-- ---- so a cycle is a fault

told_refuses : (r : Row) (more : List Row) (u : ⊤) → cycle_told (r ∷ more) ≡ Ok u → ⊥
told_refuses r more u e = absurd cc

option_cases : {A : Type 0} (o : Option A) → (o ≡ None) ⊎ ((x : A) × (o ≡ Some x))
option_cases None = inl refl
option_cases (Some x) = inr (x, refl)

checked_none : (rows : List Row) (hs : List Held) (edges : List Edge) (u : ⊤) → length hs ≡ live_count rows →
    AllBelow (containment hs) (length hs) → AllBelow (relations edges) (length hs) →
    order_checked rows hs edges ≡ Ok u → cycle_in (containment hs) (relations edges) (length hs) ≡ None
checked_none rows hs edges u long below edges_below e =
    elim (option_cases (cycle_in (containment hs) (relations edges) (length hs))) [
      | inl none ↦ none
      | inr some ↦
          let start = in_starts (containment hs) (relations edges) (length hs) below edges_below some.0 some.1 in
          let first = first_row rows some.0 start.0 start.1 start.2
          (let less = start.3 in omega (arith, less, long)) in
          absurd (told_refuses first.0 first.1 u
          (sym (ap cycle_told first.2) ∙ (sym (ap (cycle_found rows) some.1) ∙ e)))
    ]

-- ---- each test was passed

passed : {A B F : Type 0} (m : Result A F) (next : A → Result B F) (y : B) → and_then m next ≡ Ok y →
    (x : A) × (m ≡ Ok x) × (next x ≡ Ok y)
passed (Ok x) next y e = (x, refl, e)
passed (Err f) next y e = absurd cc

one_ok : {A F : Type 0} (m : Result A F) (x y : A) → m ≡ Ok x → m ≡ Ok y → x ≡ y
one_ok m x y e f = cc

record IsTogether (rows : List Row) (hs : List Held) (edges : List Edge) (made : Catalog × ExportSet) : Type 0 where
  pub u : ⊤
  pub checked : order_checked rows hs edges ≡ Ok u
  pub same_resources : hs ≡ made.0.resources
  pub same_edges : edges ≡ made.0.edges

together : (s : State) (rows : List Row) (node : List ℕ) (hs : List Held) (edges : List Edge)
    (made : Catalog × ExportSet) → put_together s rows node hs edges ≡ Ok made → IsTogether rows hs edges made
together s rows node hs edges made e =
    let exported : ⊤ → Result (Catalog × ExportSet) Fault =
    λ _. and_then (exports s rows) (λ es. Ok (catalog_with node hs edges, record { items = es })) in
    let one = passed (order_checked rows hs edges) exported made e in
    let two = passed (exports s rows) (λ es. Ok (catalog_with node hs edges, record { items = es })) made one.2 in
    let same = one_ok (Ok made) (catalog_with node hs edges, record { items = two.0 }) made (sym two.2) refl in
    record {
      u = one.0;
      checked = one.1;
      same_resources = ap (λ p. p.0.resources) same;
      same_edges = ap (λ p. p.0.edges) same;
    }

-- all indexes are those of resources
edges_below : (hs : List Held) (pairs : List Entry) → AllBelow (relations (edges_of (length hs) pairs)) (length hs)
edges_below hs pairs =
    related_below (length hs) (edges_of (length hs) pairs) (all_left (is_between (length hs)) (map edge_of pairs))

pub no_cycle_is_left : NoCycleIsLeft
no_cycle_is_left s rows related node made e =
    let layout = layout_of rows related.containments in
    let hs = resources s layout rows in
    let last : List Entry → Result (Catalog × ExportSet) Fault =
    λ pairs. put_together s rows node hs (edges_of (length hs) pairs) in
    let named : List Entry → Result (Catalog × ExportSet) Fault =
    λ pairs. and_then (names_checked s rows) (λ _. last pairs) in
    let tied : Result (Catalog × ExportSet) Fault =
    and_then (related_pairs (sources s rows related) related.lines) named in
    let real : Result (Catalog × ExportSet) Fault =
    and_then (realized_checked rows related.collectors) (λ _. tied) in
    let a = passed (lines_checked rows s) (λ _. real) made e in
    let b = passed (realized_checked rows related.collectors) (λ _. tied) made a.2 in
    let c = passed (related_pairs (sources s rows related) related.lines) named made b.2 in
    let d = passed (names_checked s rows) (λ _. last c.0) made c.2 in
    let edges = edges_of (length hs) c.0 in
    let t = together s rows node hs edges made d.2 in
    let below : AllBelow (containment hs) (length hs) =
    resources_below (held s layout) rows related.containments (λ n r. refl) in
    let under = edges_below hs c.0 in
    let none = none_in (containment hs) (relations edges) (length hs) below under
    (checked_none rows hs edges t.u (resources_long (held s layout) rows 0) below under t.checked) in (
      subst (λ l. HasNoCycle (Paired (containment l))) t.same_resources none.0,
      subst (λ es. HasNoCycle (Direct (containment made.0.resources) (relations es))) t.same_edges
          (subst (λ l. HasNoCycle (Direct (containment l) (relations edges))) t.same_resources none.1),
    )
