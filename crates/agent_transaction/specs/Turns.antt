-- The turn of a resource, and what the report says of it.
use Rattle.std.specs.Prelude.{◌≡◌, ℕ, Bool, true, false, ◌&&◌, List, [], ◌∷◌, None, Some, Result, Ok, Err, MatchResult}
use Rattle.pp_values.specs.Settings.{Setting}
use Rattle.pp_values.specs.declared.memory.Memory.{Memory}
use Rattle.pp_values.specs.declared.reference.Reference.{Reference}
use Rattle.agent_machine.specs.Machines.{Told, Refreshes}
use Rattle.agent_machine.specs.declared.holds.Holds.TheVariants as holds
use Rattle.agent_machine.specs.declared.report_line.ReportLine.{ReportLine}
use Rattle.agent_machine.specs.declared.status.Status.{Status}
use Rattle.agent_machine.specs.declared.status.Status.TheVariants as status
use Rattle.agent_transaction.specs.declared.ended.Ended.{Ended}
use Rattle.agent_transaction.specs.declared.ended.Ended.TheVariants as ended
use Rattle.agent_transaction.specs.declared.step.Step.{Step}
use Rattle.agent_transaction.specs.declared.step.Step.TheVariants as step
use Rattle.agent_transaction.specs.declared.task.Task.{Task}
use Rattle.agent_transaction.specs.declared.work.Work.{Work}
use Rattle.agent_transaction.specs.declared.work.Work.TheVariants as work
use Rattle.agent_transaction.specs.Faults.{refresh_fault}
use Rattle.agent_transaction.specs.Steps.{SetsRight, Runs, RunsUnless}

-- What becomes of the rest after a step: the first call that fails ends it, and so does want of memory.
abbrev pub Goes : Step → (List (List ℕ) → Ended → Told → Type 0) → List (List ℕ) → Ended → Told → Told → Type 0
Goes step.Kept Rest changes end now after = Rest changes end after
Goes (step.Changed name) Rest changes end now after =
    (more : List (List ℕ)) × (changes ≡ name ∷ more) × Rest more end after
Goes (step.Failed fault) Rest changes end now after = (changes ≡ []) × (end ≡ ended.Failed fault) × (after ≡ now)
Goes step.Memory Rest changes end now after = (changes ≡ []) × (end ≡ ended.Memory) × (after ≡ now)

-- nothing is left to be done
abbrev pub IsOver : Told → List (List ℕ) → Ended → Told → Type 0
IsOver now changes end after = (changes ≡ []) × (end ≡ ended.Whole) × (after ≡ now)

-- The properties are set right, each before the next one is asked for.
abbrev pub SetsAll : Bool → Reference → List Setting → List (List ℕ) → Ended → Told → Told → Type 0
SetsAll noop what [] changes end before after = IsOver before changes end after
SetsAll noop what (s ∷ ss) changes end before after =
    (result : Step) × (next : Told) × SetsRight noop what s result before next
    × Goes result (λ more last m. SetsAll noop what ss more last next m) changes end next after

-- what one step comes to, with nothing after it
abbrev pub Ends : Step → List (List ℕ) → Ended → Type 0
Ends step.Kept changes end = (changes ≡ []) × (end ≡ ended.Whole)
Ends (step.Changed name) changes end = (changes ≡ name ∷ []) × (end ≡ ended.Whole)
Ends (step.Failed fault) changes end = (changes ≡ []) × (end ≡ ended.Failed fault)
Ends step.Memory changes end = (changes ≡ []) × (end ≡ ended.Memory)

abbrev pub Single : (Step → Told → Told → Type 0) → List (List ℕ) → Ended → Told → Told → Type 0
Single R changes end before after = (result : Step) × R result before after × Ends result changes end

abbrev pub Works : Bool → Reference → Work → List (List ℕ) → Ended → Told → Told → Type 0
Works noop what (work.Set ss) changes end before after = SetsAll noop what ss changes end before after
Works noop what work.Run changes end before after = Single (Runs noop what) changes end before after
Works noop what (work.RunUnless file s) changes end before after =
    Single (RunsUnless noop what file s) changes end before after
Works noop what work.Idle changes end before after = IsOver before changes end after

-- One refresh where signals ask for it, however many there are: whether it was refreshed, or else which call failed.
abbrev pub Refreshed : Bool → Reference → Result Bool (List ℕ) → Told → Told → Type 0
Refreshed true what (Ok refreshed) before after = (refreshed ≡ true) × Refreshes what holds.Yes before after
Refreshed true what (Err fault) before after = (fault ≡ refresh_fault) × Refreshes what holds.Failed before after
Refreshed false what result before after = (result ≡ Ok false) × (after ≡ before)

-- how the turn ends: a call that failed is the last one
abbrev pub Finishes : Bool → Reference → Ended → Result Bool (List ℕ) → Told → Told → Type 0
Finishes due what ended.Whole result before after = Refreshed due what result before after
Finishes due what (ended.Failed fault) result before after = (result ≡ Err fault) × (after ≡ before)
Finishes due what ended.Memory result before after = ⊥

abbrev pub FinishGives : Bool → Reference → Ended → Result (Result Bool (List ℕ)) Memory → Told → Told → Type 0
FinishGives due what end result before after =
    MatchResult result (λ refreshed. Finishes due what end refreshed before after)
    (λ _. (end ≡ ended.Memory) × (after ≡ before))

-- without a failure: what was changed, and what would have been
abbrev pub calm_status : Bool → List (List ℕ) → Status
calm_status noop [] = status.Unchanged
calm_status true (change ∷ changes) = status.Noop
calm_status false (change ∷ changes) = status.Changed

-- the line of a resource that had its turn
abbrev pub line_of : Reference → Bool → List (List ℕ) → Result Bool (List ℕ) → ReportLine
line_of what noop changes (Ok refreshed) = record {
  item = what;
  status = calm_status noop changes;
  changes = changes;
  refreshed = refreshed;
  fault = None;
}
line_of what noop changes (Err fault) = record {
  item = what;
  status = status.Failed;
  changes = changes;
  refreshed = false;
  fault = Some fault;
}

-- the line of one that was not looked at
abbrev pub skipped_line : Reference → ReportLine
skipped_line what = record { item = what; status = status.Skipped; changes = []; refreshed = false; fault = None }

-- One turn: the work, and then one refresh where a source signalled and the resource is one that is refreshed.
pub record IsTurn (task : Task) (signalled : Bool) (line : ReportLine) (before after : Told) : Type 0 where
  pub middle : Told
  pub changes : List (List ℕ)
  pub end : Ended
  pub result : Result Bool (List ℕ)
  pub works : Works task.noop task.what task.work changes end before middle
  pub finishes : Finishes (signalled && task.refreshes) task.what end result middle after
  pub told : line ≡ line_of task.what task.noop changes result

-- a turn that a write broke off, for which there was no memory
abbrev pub IsBroken : Task → Told → Told → Type 0
IsBroken task before after =
    (changes : List (List ℕ)) × Works task.noop task.what task.work changes ended.Memory before after

abbrev pub TurnGives : Task → Bool → Result ReportLine Memory → Told → Told → Type 0
TurnGives task signalled result before after =
    MatchResult result (λ line. IsTurn task signalled line before after) (λ _. IsBroken task before after)
