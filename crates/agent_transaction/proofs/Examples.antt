-- What turns have to do, and what they come to, at worked examples: one for each rule.
use Rattle.std.proofs.Common.{◌≡◌, ℕ, true, false, List, [], ◌∷◌, None, Some, refl}
use Rattle.std.specs.Prelude.{codes}
use Rattle.pp_values.specs.Datum.{flag, text}
use Rattle.pp_values.specs.Settings.{Setting}
use Rattle.res_core.specs.NativeTypes.{row, native_of}
use Rattle.res_core.specs.declared.native_type.NativeType.TheVariants as native
use Rattle.res_core.specs.declared.resource.Resource.{Resource}
use Rattle.agent_machine.specs.Contents.{Content}
use Rattle.agent_machine.specs.States.{State, present, absent, has, written}
use Rattle.agent_machine.specs.declared.status.Status.TheVariants as status
use Rattle.agent_transaction.specs.Tasks.{is_noop, looked_at, work_of, task_of, task_in, file_at, ensure}
use Rattle.agent_transaction.specs.ToldTurns.{turn}
use Rattle.agent_transaction.specs.declared.task.Task.{Task}
use Rattle.agent_transaction.specs.declared.work.Work.TheVariants as work

abbrev x : Setting
x = (codes "content", text (codes "x"))

abbrev mode : Setting
mode = (codes "mode", text (codes "0644"))

abbrev gone : Setting
gone = (ensure, absent)

abbrev here : Setting
here = (ensure, present)

-- ---- what a turn has to do

-- properties are looked at in the order of the table, whatever the order of the attributes
in_order : looked_at (row native.File).properties (x ∷ here ∷ mode ∷ []) ≡ here ∷ x ∷ mode ∷ []
in_order = refl

-- other attributes are none
only_properties : looked_at (row native.Service).properties ((codes "provider", text (codes "p")) ∷ []) ≡ []
only_properties = refl

-- `ensure` of `absent` ends the list
absent_ends : looked_at (row native.File).properties (x ∷ gone ∷ mode ∷ []) ≡ gone ∷ []
absent_ends = refl

-- with `refreshonly` an exec does nothing by itself; the text `true` is not it
refresh_only : work_of native.Exec ((codes "creates", text (codes "/c")) ∷ (codes "refreshonly", flag true) ∷ []) ≡ work.Idle
refresh_only = refl

not_refresh_only : work_of native.Exec ((codes "refreshonly", text (codes "true")) ∷ []) ≡ work.Run
not_refresh_only = refl

creates_first : work_of native.Exec ((codes "creates", text (codes "/c")) ∷ []) ≡ work.RunUnless (file_at (codes "/c")) here
creates_first = refl

creates_no_text : work_of native.Exec ((codes "creates", flag true) ∷ []) ≡ work.Run
creates_no_text = refl

notify_runs : work_of native.Notify ((codes "message", text (codes "m")) ∷ []) ≡ work.Run
notify_runs = refl

noop_is_true : is_noop ((codes "noop", flag true) ∷ []) ≡ true
noop_is_true = refl

noop_text : is_noop ((codes "noop", text (codes "true")) ∷ []) ≡ false
noop_text = refl

-- classes and instances of defined types have no turn
class_has_none : task_in (record { kind = codes "class"; title = codes "main"; attributes = []; tags = [] }) ≡ None
unfolding native_of
class_has_none = refl

-- ---- turns

abbrev resource : List ℕ → List ℕ → List Setting → Resource
resource kind title attributes = record { kind = kind; title = title; attributes = attributes; tags = [] }

abbrev content : List (List ℕ) → State → Content
content failing state = record { document = record { failing = failing; state = state }; calls = 0; failing = [] }

abbrev running : State
running = (codes "Service[s]", here ∷ []) ∷ []

abbrev file_a : List Setting → Task
file_a attributes = task_of native.File (resource (codes "file") (codes "/a") attributes)

abbrev service_s : List Setting → Task
service_s attributes = task_of native.Service (resource (codes "service") (codes "s") attributes)

abbrev exec_e : List Setting → Task
exec_e attributes = task_of native.Exec (resource (codes "exec") (codes "e") attributes)

abbrev ran : List ℕ
ran = codes "run"

-- each property that differs is written before the next one is asked for
two_written : (turn (file_a (x ∷ mode ∷ [])) false (content [] [])).0 ≡
    record { item = file_at (codes "/a"); status = status.Changed; changes = codes "content" ∷ codes "mode" ∷ []; refreshed = false; fault = None }
unfolding has written
two_written = refl

two_written_calls : (turn (file_a (x ∷ mode ∷ [])) false (content [] [])).1.calls ≡ 4
unfolding has written
two_written_calls = refl

-- what holds is not written
kept : (turn (file_a (x ∷ [])) false (content [] ((codes "File[/a]", x ∷ []) ∷ []))).0 ≡
    record { item = file_at (codes "/a"); status = status.Unchanged; changes = []; refreshed = false; fault = None }
unfolding has written
kept = refl

-- with `ensure` of `absent` nothing else is asked for
removed : (turn (file_a (x ∷ gone ∷ [])) false (content [] ((codes "File[/a]", []) ∷ []))).0.changes ≡ ensure ∷ []
unfolding has written
removed = refl

removed_calls : (turn (file_a (x ∷ gone ∷ [])) false (content [] ((codes "File[/a]", []) ∷ []))).1.calls ≡ 2
unfolding has written
removed_calls = refl

-- the first call that fails is the last one; what was changed before it stays changed, and is told
mode_fails : (turn (file_a (x ∷ mode ∷ [])) false (content (codes "write File[/a] mode" ∷ []) [])).0 ≡
    record { item = file_at (codes "/a"); status = status.Failed; changes = codes "content" ∷ []; refreshed = false; fault = Some (codes "write mode") }
unfolding has written
mode_fails = refl

asking_fails : (turn (file_a (x ∷ mode ∷ [])) false (content (codes "holds File[/a] content" ∷ []) [])).0 ≡
    record { item = file_at (codes "/a"); status = status.Failed; changes = []; refreshed = false; fault = Some (codes "holds content") }
unfolding has written
asking_fails = refl

-- with `noop` it is asked in the same order, and nothing is written
noop_looks : (turn (file_a (x ∷ mode ∷ (codes "noop", flag true) ∷ [])) false (content [] [])).0 ≡
    record { item = file_at (codes "/a"); status = status.Noop; changes = codes "content" ∷ codes "mode" ∷ []; refreshed = false; fault = None }
unfolding has written
noop_looks = refl

noop_leaves : (turn (file_a (x ∷ mode ∷ (codes "noop", flag true) ∷ [])) false (content [] [])).1 ≡
    record { document = record { failing = []; state = [] }; calls = 2; failing = [] }
unfolding has written
noop_leaves = refl

-- a signal refreshes a service once, and a file not at all
signalled : (turn (service_s (here ∷ [])) true (content [] running)).0 ≡
    record { item = (service_s []).what; status = status.Unchanged; changes = []; refreshed = true; fault = None }
unfolding has written
signalled = refl

signalled_calls : (turn (service_s (here ∷ [])) true (content [] running)).1.calls ≡ 2
unfolding has written
signalled_calls = refl

files_are_not : (turn (file_a (x ∷ [])) true (content [] [])).0.refreshed ≡ false
unfolding has written
files_are_not = refl

-- a refresh that fails, and one that an earlier failure prevents
refresh_fails : (turn (service_s (here ∷ [])) true (content (codes "refresh Service[s]" ∷ []) running)).0 ≡
    record { item = (service_s []).what; status = status.Failed; changes = []; refreshed = false; fault = Some (codes "refresh") }
unfolding has written
refresh_fails = refl

no_refresh_after : (turn (service_s (here ∷ [])) true (content (codes "holds Service[s] ensure" ∷ []) running)).1.calls ≡ 1
unfolding has written
no_refresh_after = refl

-- an exec is run, and refreshed behind that where it was signalled
exec_runs : (turn (exec_e []) true (content [] [])).0 ≡
    record { item = (exec_e []).what; status = status.Changed; changes = ran ∷ []; refreshed = true; fault = None }
exec_runs = refl

exec_idle : (turn (exec_e ((codes "refreshonly", flag true) ∷ [])) true (content [] [])).0 ≡
    record { item = (exec_e []).what; status = status.Unchanged; changes = []; refreshed = true; fault = None }
exec_idle = refl

exec_idle_calls : (turn (exec_e ((codes "refreshonly", flag true) ∷ [])) false (content [] [])).1.calls ≡ 0
exec_idle_calls = refl

-- it is not run where the file of `creates` is there
exec_created : (turn (exec_e ((codes "creates", text (codes "/c")) ∷ [])) false (content [] ((codes "File[/c]", []) ∷ []))).0.changes ≡ []
unfolding has written
exec_created = refl

exec_creates : (turn (exec_e ((codes "creates", text (codes "/c")) ∷ [])) false (content [] [])).0.changes ≡ ran ∷ []
unfolding has written
exec_creates = refl

-- with `noop` it is neither run nor refreshed
exec_noop : (turn (exec_e ((codes "noop", flag true) ∷ [])) true (content [] [])).0 ≡
    record { item = (exec_e []).what; status = status.Noop; changes = ran ∷ []; refreshed = false; fault = None }
exec_noop = refl

exec_noop_calls : (turn (exec_e ((codes "noop", flag true) ∷ [])) true (content [] [])).1.calls ≡ 0
exec_noop_calls = refl
