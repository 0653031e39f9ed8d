-- A run over a catalog: each resource's turn, in order.
use Rattle.std.specs.Prelude.{◌≡◌, ◌⊎◌, ◌↔◌, ℕ, Bool, true, false, ◌||◌, List, [], ◌∷◌, ◌++◌, map, if◌then◌else◌}
use Rattle.std.specs.Prelude.{Option, option_map, option_and_then, option_to_list, slice_get, Result, MatchResult}
use Rattle.std.specs.List.{Contains}
use Rattle.pp_values.specs.declared.memory.Memory.{Memory}
use Rattle.rel_graph.specs.Graphs.{edge_pair}
use Rattle.res_core.specs.declared.edge.Edge.{Edge}
use Rattle.res_core.specs.declared.held.Held.{Held}
use Rattle.agent_machine.specs.Machines.{Told}
use Rattle.agent_machine.specs.declared.report_line.ReportLine.{ReportLine}
use Rattle.agent_machine.specs.declared.status.Status.{Status}
use Rattle.agent_machine.specs.declared.status.Status.TheVariants as status
use Rattle.agent_transaction.specs.Tasks.{task_in}
use Rattle.agent_transaction.specs.Turns.{IsTurn, IsBroken, skipped_line}
use Rattle.agent_transaction.specs.declared.task.Task.{Task}

-- ---- what the catalog says

abbrev pub signal_of : Edge → List (ℕ × ℕ)
signal_of e = if e.signal then edge_pair e ∷ [] else []

-- those by which a change is signalled
abbrev pub signalling : List Edge → List (ℕ × ℕ)
signalling [] = []
signalling (e ∷ es) = signal_of e ++ signalling es

-- what the turn of the resource at this index has to do, where it has one
abbrev pub task_at : List Held → ℕ → Option Task
task_at resources at = option_and_then (λ h. task_in h.item) (slice_get resources at)

abbrev pub taken_at : List Held → ℕ → List (ℕ × Task)
taken_at resources at = option_to_list (option_map (λ task. (at, task)) (task_at resources at))

-- the resources at these indexes that have turns, each with what its turn has to do
abbrev pub tasks_at : List Held → List ℕ → List (ℕ × Task)
tasks_at resources [] = []
tasks_at resources (at ∷ order) = taken_at resources at ++ tasks_at resources order

-- ---- what turns come to

-- a resource had its turn, or was skipped: its line, and the machine before and after
pub record Turned : Type 0 where
  pub at : ℕ
  pub task : Task
  pub before : Told
  pub line : ReportLine
  pub after : Told

abbrev pub is_failed : Status → Bool
is_failed status.Failed = true
is_failed other = false

abbrev pub is_changed : Status → Bool
is_changed status.Changed = true
is_changed other = false

abbrev pub has_failed : ReportLine → Bool
has_failed line = is_failed line.status

-- What was changed or refreshed signals. What failed does not, and what has `noop` does not: it is never either.
abbrev pub signals : ReportLine → Bool
signals line = is_changed line.status || line.refreshed

-- some resource whose turn came earlier has such a line, and leads to x
abbrev pub Reaches : (ReportLine → Bool) → (ℕ → ℕ → Type 0) → List Turned → ℕ → Type 0
Reaches P R earlier x = (t : Turned) × Contains earlier t × (P t.line ≡ true) × R t.at x

-- `Comes a x`: a comes before x. `Signals a x`: they are a signalling pair, x the one that is refreshed.
module _ (Comes Signals : ℕ → ℕ → Type 0) where
  -- A resource is skipped exactly where one that failed comes before it, however far. Else it has its turn, with a
  -- refresh where a source of signals was changed or refreshed.
  abbrev pub IsTurned : List Turned → Turned → Type 0
  IsTurned earlier t =
      (Reaches has_failed Comes earlier t.at × (t.line ≡ skipped_line t.task.what) × (t.after ≡ t.before))
      ⊎ (¬ (Reaches has_failed Comes earlier t.at)
      × ((signalled : Bool) × ((signalled ≡ true) ↔ Reaches signals Signals earlier t.at)
      × IsTurn t.task signalled t.line t.before t.after))

  -- each of these began where the one before it ended
  abbrev pub AreTurned : List Turned → List Turned → Told → Told → Type 0
  AreTurned earlier [] before after = after ≡ before
  AreTurned earlier (t ∷ ts) before after =
      (t.before ≡ before) × IsTurned earlier t × AreTurned (earlier ++ t ∷ []) ts t.after after

  -- the lines of a report, from one state of the machine to another
  pub record IsRunOf (tasks : List (ℕ × Task)) (lines : List ReportLine) (before after : Told) : Type 0 where
    pub turned : List Turned
    pub whose : map (λ t. (t.at, t.task)) turned ≡ tasks
    pub told : map (λ t. t.line) turned ≡ lines
    pub each : AreTurned [] turned before after

  -- a run that a write broke off, for which there was no memory: some turns were whole, and the next one was begun
  pub record IsBrokenRun (tasks : List (ℕ × Task)) (before after : Told) : Type 0 where
    pub turned : List Turned
    pub at : ℕ
    pub task : Task
    pub left : List (ℕ × Task)
    pub middle : Told
    pub whose : map (λ t. (t.at, t.task)) turned ++ (at, task) ∷ left ≡ tasks
    pub each : AreTurned [] turned before middle
    pub looked_at : ¬ (Reaches has_failed Comes turned at)
    pub broken : IsBroken task middle after

  abbrev pub RunGives : List (ℕ × Task) → Result (List ReportLine) Memory → Told → Told → Type 0
  RunGives tasks result before after =
      MatchResult result (λ lines. IsRunOf tasks lines before after) (λ _. IsBrokenRun tasks before after)
