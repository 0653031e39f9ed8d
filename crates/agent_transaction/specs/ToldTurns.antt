-- The turn of a resource on a machine that tells its content: what is called, what is answered and what is left are
-- functions of the content.
use Rattle.std.specs.Prelude.{ℕ, Bool, true, false, ◌&&◌, List, [], ◌∷◌, Result, Ok, Err}
use Rattle.pp_values.specs.Settings.{Setting}
use Rattle.pp_values.specs.declared.reference.Reference.{Reference}
use Rattle.agent_machine.specs.Contents.{Content, asked, holds_answer, refresh_answer, write_answer, after_write}
use Rattle.agent_machine.specs.declared.holds.Holds.{Holds}
use Rattle.agent_machine.specs.declared.holds.Holds.TheVariants as holds
use Rattle.agent_machine.specs.declared.report_line.ReportLine.{ReportLine}
use Rattle.agent_machine.specs.declared.wrote.Wrote.{Wrote}
use Rattle.agent_machine.specs.declared.wrote.Wrote.TheVariants as wrote
use Rattle.agent_transaction.specs.Faults.{holds_fault, write_fault, refresh_fault, run_change}
use Rattle.agent_transaction.specs.Turns.{line_of}
use Rattle.agent_transaction.specs.declared.ended.Ended.{Ended}
use Rattle.agent_transaction.specs.declared.ended.Ended.TheVariants as ended
use Rattle.agent_transaction.specs.declared.step.Step.{Step}
use Rattle.agent_transaction.specs.declared.step.Step.TheVariants as step
use Rattle.agent_transaction.specs.declared.task.Task.{Task}
use Rattle.agent_transaction.specs.declared.work.Work.{Work}
use Rattle.agent_transaction.specs.declared.work.Work.TheVariants as work

-- what a write comes to
abbrev pub wrote_step : Setting → Wrote → Step
wrote_step s wrote.Done = step.Changed s.0
wrote_step s wrote.Failed = step.Failed (write_fault s.0)
wrote_step s wrote.Memory = step.Memory

-- a property that differs
abbrev pub corrected : Bool → Reference → Setting → Content → Step × Content
corrected true what s c = (step.Changed s.0, c)
corrected false what s c = (wrote_step s (write_answer what s.0 c), after_write what s.0 s.1 c)

abbrev pub set_by : Bool → Reference → Setting → Holds → Content → Step × Content
set_by noop what s holds.Yes c = (step.Kept, c)
set_by noop what s holds.No c = corrected noop what s c
set_by noop what s holds.Failed c = (step.Failed (holds_fault s.0), c)

abbrev pub set_right : Bool → Reference → Setting → Content → Step × Content
set_right noop what s c = set_by noop what s (holds_answer what s.0 s.1 c) (asked c)

abbrev pub ran_step : Holds → Step
ran_step holds.Yes = step.Changed run_change
ran_step holds.No = step.Kept
ran_step holds.Failed = step.Failed refresh_fault

abbrev pub run : Bool → Reference → Content → Step × Content
run true what c = (step.Changed run_change, c)
run false what c = (ran_step (refresh_answer what c), asked c)

abbrev pub run_by : Bool → Reference → Setting → Holds → Content → Step × Content
run_by noop what s holds.Yes c = (step.Kept, c)
run_by noop what s holds.No c = run noop what c
run_by noop what s holds.Failed c = (step.Failed (holds_fault s.0), c)

abbrev pub run_unless : Bool → Reference → Reference → Setting → Content → Step × Content
run_unless noop what file s c = run_by noop what s (holds_answer file s.0 s.1 c) (asked c)

-- what was changed, how the calls ended, and the content after them
abbrev pub Worked : Type 0
Worked = List (List ℕ) × (Ended × Content)

abbrev pub with_change : List ℕ → Worked → Worked
with_change name w = (name ∷ w.0, w.1)

abbrev pub go_on : Step × Content → (Content → Worked) → Worked
go_on (step.Kept, c) rest = rest c
go_on (step.Changed name, c) rest = with_change name (rest c)
go_on (step.Failed fault, c) rest = ([], (ended.Failed fault, c))
go_on (step.Memory, c) rest = ([], (ended.Memory, c))

abbrev pub whole : Content → Worked
whole c = ([], (ended.Whole, c))

abbrev pub set_all : Bool → Reference → List Setting → Content → Worked
set_all noop what [] c = whole c
set_all noop what (s ∷ ss) c = go_on (set_right noop what s c) (λ d. set_all noop what ss d)

abbrev pub worked : Bool → Reference → Work → Content → Worked
worked noop what (work.Set ss) c = set_all noop what ss c
worked noop what work.Run c = go_on (run noop what c) whole
worked noop what (work.RunUnless file s) c = go_on (run_unless noop what file s c) whole
worked noop what work.Idle c = whole c

-- one refresh for signals
abbrev pub refreshed_result : Holds → Result Bool (List ℕ)
refreshed_result holds.Yes = Ok true
refreshed_result holds.No = Ok false
refreshed_result holds.Failed = Err refresh_fault

abbrev pub refreshed : Bool → Reference → Content → Result Bool (List ℕ) × Content
refreshed true what c = (refreshed_result (refresh_answer what c), asked c)
refreshed false what c = (Ok false, c)

abbrev pub finished : Bool → Reference → Ended → Content → Result Bool (List ℕ) × Content
finished due what ended.Whole c = refreshed due what c
finished due what (ended.Failed fault) c = (Err fault, c)
finished due what ended.Memory c = (Ok false, c)

abbrev pub with_line : Task → List (List ℕ) → Result Bool (List ℕ) × Content → ReportLine × Content
with_line task changes f = (line_of task.what task.noop changes f.0, f.1)

abbrev pub finish_worked : Task → Bool → Worked → ReportLine × Content
finish_worked task due w = with_line task w.0 (finished due task.what w.1.0 w.1.1)

-- the line of a turn, and the content after it
abbrev pub turn : Task → Bool → Content → ReportLine × Content
turn task signalled c = finish_worked task (signalled && task.refreshes) (worked task.noop task.what task.work c)
