-- The run over a catalog, and what is told where there is none.
use Rattle.std.specs.Prelude.{◌≡◌, ◌⊎◌, ℕ, List, [], ◌∷◌, ◌++◌, length, option_map, option_to_list, slice_get, Result}
use Rattle.std.specs.Prelude.{MatchResult}
use Rattle.pp_values.specs.declared.reference.Reference.{Reference}
use Rattle.rel_graph.specs.Before.{Before, Direct}
use Rattle.rel_graph.specs.CatalogPairs.{containment, relations}
use Rattle.rel_graph.specs.Chains.{Paired}
use Rattle.rel_graph.specs.Cycles.{IsCycle, HasNoCycle}
use Rattle.rel_graph.specs.Orders.{IsOrder}
use Rattle.res_core.specs.Catalogs.{Catalog, reference_of}
use Rattle.res_core.specs.declared.edge.Edge.{Edge}
use Rattle.res_core.specs.declared.held.Held.{Held}
use Rattle.agent_machine.specs.Machines.{Told}
use Rattle.agent_machine.specs.declared.report.Report.{Report}
use Rattle.agent_transaction.specs.Runs.{signalling, tasks_at, IsRunOf, IsBrokenRun}
use Rattle.agent_transaction.specs.declared.run_stop.RunStop.{RunStop}
use Rattle.agent_transaction.specs.declared.run_stop.RunStop.TheVariants as stop

-- No resource stands inside itself, and this is the order of all: each after those that come before it, and of those
-- that are ready the one with the least index next.
pub record IsOrdered (resources : List Held) (edges : List Edge) (order : List ℕ) : Type 0 where
  pub contained : HasNoCycle (Paired (containment resources))
  pub in_order : IsOrder (Direct (containment resources) (relations edges)) (length resources) order

abbrev pub reference_at : List Held → ℕ → List Reference
reference_at resources at = option_to_list (option_map reference_of (slice_get resources at))

abbrev pub references_at : List Held → List ℕ → List Reference
references_at resources [] = []
references_at resources (at ∷ ats) = reference_at resources at ++ references_at resources ats

-- A resource stands inside itself, or else one comes before itself: the cycle that `rel_graph` tells.
pub record IsCycleTold (resources : List Held) (edges : List Edge) (told : List Reference) : Type 0 where
  pub cycle : List ℕ
  pub is : told ≡ references_at resources cycle
  pub closes :
      IsCycle (Paired (containment resources)) cycle
      ⊎ (HasNoCycle (Paired (containment resources))
      × IsCycle (Direct (containment resources) (relations edges)) cycle)

-- The report has the catalog's node, and a line for each resource that has a turn, in the order of the catalog.
pub record IsRun (c : Catalog) (report : Report) (before after : Told) : Type 0 where
  pub order : List ℕ
  pub ordered : IsOrdered c.resources c.edges order
  pub node : report.node ≡ c.node
  pub lines :
      IsRunOf (Before (containment c.resources) (relations c.edges))
      (Direct (containment c.resources) (signalling c.edges))
      (tasks_at c.resources order) report.lines before after

-- a run that a write broke off, for which there was no memory
pub record IsCutRun (c : Catalog) (before after : Told) : Type 0 where
  pub order : List ℕ
  pub ordered : IsOrdered c.resources c.edges order
  pub broken :
      IsBrokenRun (Before (containment c.resources) (relations c.edges))
      (Direct (containment c.resources) (signalling c.edges))
      (tasks_at c.resources order) before after

-- With a cycle the machine is not called. Memory was wanted before the first call, or for a write.
abbrev pub IsRunStop : Catalog → RunStop → Told → Told → Type 0
IsRunStop c (stop.Cycle told) before after = IsCycleTold c.resources c.edges told × (after ≡ before)
IsRunStop c stop.Memory before after = (after ≡ before) ⊎ IsCutRun c before after

abbrev pub RunsCatalog : Catalog → Result Report RunStop → Told → Told → Type 0
RunsCatalog c result before after =
    MatchResult result (λ report. IsRun c report before after) (λ refusal. IsRunStop c refusal before after)
