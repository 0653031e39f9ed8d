-- What a report says of the catalog that was applied, resource by resource.
use Rattle.std.specs.Prelude.{◌≡◌, ◌↔◌, ℕ, ◌<◌, Bool, true, ◌&&◌, not, List, Some, slice_get}
use Rattle.rel_graph.specs.Before.{Before, Direct}
use Rattle.rel_graph.specs.CatalogPairs.{containment, relations}
use Rattle.res_core.specs.Catalogs.{Catalog, IsCatalog, reference_of}
use Rattle.res_core.specs.NativeTypes.{native_of}
use Rattle.res_core.specs.declared.held.Held.{Held}
use Rattle.res_core.specs.declared.native_type.NativeType.{NativeType}
use Rattle.agent_machine.specs.Machines.{Told, Refreshes}
use Rattle.agent_machine.specs.declared.holds.Holds.TheVariants as holds
use Rattle.agent_machine.specs.declared.report.Report.{Report}
use Rattle.agent_machine.specs.declared.report_line.ReportLine.{ReportLine}
use Rattle.agent_machine.specs.declared.status.Status.TheVariants as status
use Rattle.agent_transaction.specs.Catalogs.{IsRun}
use Rattle.agent_transaction.specs.Runs.{signalling, has_failed, signals}
use Rattle.agent_transaction.specs.Tasks.{is_refreshed, is_noop}
use Rattle.agent_transaction.specs.Turns.{IsTurn, Works}
use Rattle.agent_transaction.specs.declared.ended.Ended.TheVariants as ended
use Rattle.agent_transaction.specs.declared.task.Task.{Task}

-- the resource with this index is one of a native type, so it has a turn
pub record IsNative (c : Catalog) (x : ℕ) : Type 0 where
  pub held : Held
  pub there : slice_get c.resources x ≡ Some held
  pub native : NativeType
  pub is : native_of held.item.kind ≡ Some native

-- its line, and the place of that among the lines
pub record HasLine (c : Catalog) (lines : List ReportLine) (x : ℕ) (line : ReportLine) : Type 0 where
  pub resource : IsNative c x
  pub place : ℕ
  pub told : slice_get lines place ≡ Some line
  pub whose : line.item ≡ reference_of resource.held

-- a service or an exec that is not `noop`
abbrev pub refreshes : {c : Catalog} {x : ℕ} → IsNative c x → Bool
refreshes t = is_refreshed t.native && not (is_noop t.held.item.attributes)

-- some resource that leads to x has such a line
pub record SomeLine (c : Catalog) (lines : List ReportLine) (P : ReportLine → Bool) (R : ℕ → ℕ → Type 0) (x : ℕ)
    : Type 0 where
  pub source : ℕ
  pub line : ReportLine
  pub has : HasLine c lines source line
  pub is : P line ≡ true
  pub leads : R source x

-- Each resource of a native type has one line, and there are no others. A resource is skipped exactly where some
-- resource that comes before it failed. It was refreshed exactly where it is a service or an exec that is not `noop`,
-- neither was skipped nor failed, and some resource that is directly before it by a relation with a signal was changed
-- or refreshed.
pub record Says (c : Catalog) (lines : List ReportLine) : Type 0 where
  pub each : (x : ℕ) → IsNative c x → (line : ReportLine) × HasLine c lines x line
  pub once : (x : ℕ) (one other : ReportLine) (a : HasLine c lines x one) (b : HasLine c lines x other) →
      a.place ≡ b.place
  pub others : (place : ℕ) (line : ReportLine) → slice_get lines place ≡ Some line →
      (x : ℕ) × HasLine c lines x line
  pub skipped : (x : ℕ) (line : ReportLine) → HasLine c lines x line →
      (line.status ≡ status.Skipped)
      ↔ SomeLine c lines has_failed (Before (containment c.resources) (relations c.edges)) x
  pub refreshed : (x : ℕ) (line : ReportLine) (h : HasLine c lines x line) →
      (line.refreshed ≡ true)
      ↔ ((refreshes h.resource ≡ true) × ¬ (line.status ≡ status.Skipped) × ¬ (line.status ≡ status.Failed)
      × SomeLine c lines signals (Direct (containment c.resources) (signalling c.edges)) x)

-- the line of each resource stands after those of all that come before it
abbrev pub InOrder : Catalog → List ReportLine → Type 0
InOrder c lines = (x y : ℕ) (line earlier : ReportLine) (a : HasLine c lines x line) (b : HasLine c lines y earlier) →
    Before (containment c.resources) (relations c.edges) y x → b.place < a.place

-- This holds of each report of a run.
abbrev pub RunSays : Type 0
RunSays = (c : Catalog) (report : Report) (before after : Told) → IsCatalog c.resources c.edges →
    IsRun c report before after → Says c report.lines × InOrder c report.lines

-- A turn that was refreshed is its whole work, and then one refresh, and nothing more. One that was not, and that did
-- not fail, is its work alone.
pub record OneRefresh (task : Task) (before after : Told) : Type 0 where
  pub changes : List (List ℕ)
  pub middle : Told
  pub works : Works task.noop task.what task.work changes ended.Whole before middle
  pub refresh : Refreshes task.what holds.Yes middle after

abbrev pub RefreshedOnce : Type 0
RefreshedOnce = (task : Task) (signalled : Bool) (line : ReportLine) (before after : Told) →
    IsTurn task signalled line before after →
    ((line.refreshed ≡ true) → OneRefresh task before after)
    × (¬ (line.refreshed ≡ true) → ¬ (line.status ≡ status.Failed) →
    (changes : List (List ℕ)) × Works task.noop task.what task.work changes ended.Whole before after)
