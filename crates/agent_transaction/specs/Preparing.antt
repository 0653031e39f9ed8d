-- What is there before the first call on the machine.
use Rattle.std.specs.Prelude.{◌≡◌, ℕ, List, map, length, Result, MatchResult}
use Rattle.rel_graph.specs.Before.{Before, Direct}
use Rattle.rel_graph.specs.CatalogPairs.{containment, relations}
use Rattle.res_core.specs.declared.edge.Edge.{Edge}
use Rattle.res_core.specs.declared.held.Held.{Held}
use Rattle.agent_marks.specs.Spreads.{Marking, IsNew}
use Rattle.agent_transaction.specs.Catalogs.{IsCycleTold, IsOrdered, references_at}
use Rattle.agent_transaction.specs.Marking.{planned_pair, AreBelow}
use Rattle.agent_transaction.specs.Runs.{signalling, tasks_at}
use Rattle.agent_transaction.specs.declared.planned.Planned.{Planned}
use Rattle.agent_transaction.specs.declared.run_stop.RunStop.{RunStop}
use Rattle.agent_transaction.specs.declared.run_stop.RunStop.TheVariants as stop

-- a refusal before the first call
abbrev pub IsStop : List Held → List Edge → RunStop → Type 0
IsStop resources edges (stop.Cycle cycle) = IsCycleTold resources edges cycle
IsStop resources edges stop.Memory = Unit {0}

-- the cycle of these indexes, or want of memory for it
abbrev pub StopTells : List Held → List ℕ → RunStop → Type 0
StopTells resources cycle (stop.Cycle told) = told ≡ references_at resources cycle
StopTells resources cycle stop.Memory = Unit {0}

abbrev pub OrderGives : List Held → List Edge → Result (List ℕ) RunStop → Type 0
OrderGives resources edges result = MatchResult result (IsOrdered resources edges) (IsStop resources edges)

-- The turns in their order, and the marks before the first one.
pub record IsPrepared (resources : List Held) (edges : List Edge) (plan : List Planned)
    (blocked signalled : Marking) : Type 0 where
  pub order : List ℕ
  pub ordered : IsOrdered resources edges order
  pub planned : map planned_pair plan ≡ tasks_at resources order
  pub below : AreBelow (length resources) plan
  pub blocks : IsNew (length resources) (Before (containment resources) (relations edges)) blocked
  pub sources : IsNew (length resources) (Direct (containment resources) (signalling edges)) signalled
