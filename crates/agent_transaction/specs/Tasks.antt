-- What the turn of a resource has to do, by the resource's kind and attributes.
use Rattle.std.specs.Prelude.{ℕ, Bool, true, false, not, ◌&&◌, if◌then◌else◌, List, [], ◌∷◌, Option, None, Some}
use Rattle.std.specs.Prelude.{option_map, codes}
use Rattle.pp_values.specs.Datum.{Datum, flag, text}
use Rattle.pp_values.specs.Settings.{Setting}
use Rattle.pp_values.specs.declared.reference.Reference.{Reference}
use Rattle.res_core.specs.AttributeViews.{set_in}
use Rattle.res_core.specs.NativeTypes.{row, native_of}
use Rattle.res_core.specs.declared.native_type.NativeType.{NativeType}
use Rattle.res_core.specs.declared.native_type.NativeType.TheVariants as native
use Rattle.res_core.specs.declared.resource.Resource.{Resource}
use Rattle.agent_machine.specs.States.{present, removes}
use Rattle.agent_transaction.specs.declared.task.Task.{Task}
use Rattle.agent_transaction.specs.declared.work.Work.{Work}
use Rattle.agent_transaction.specs.declared.work.Work.TheVariants as work

-- an attribute is set to true; the text `true` is not it
abbrev pub is_true : Option Datum → Bool
is_true None = false
is_true (Some (flag b)) = b
is_true (Some value) = false

-- a property that is set, before those that come after it; where it removes what is recorded, none comes after it
abbrev pub from_here : List ℕ → Option Datum → List Setting → List Setting
from_here name None rest = rest
from_here name (Some value) rest = (name, value) ∷ (if removes name value then [] else rest)

-- The properties of these names that are set, in their order. A wanted `ensure` of `absent` ends the list.
abbrev pub looked_at : List (List ℕ) → List Setting → List Setting
looked_at [] attributes = []
looked_at (name ∷ names) attributes = from_here name (set_in attributes name) (looked_at names attributes)

abbrev pub ensure : List ℕ
ensure = codes "ensure"

abbrev pub file_at : List ℕ → Reference
file_at path = record { kind = codes "file"; title = path }

-- an `exec` is run unless the file of `creates` is there; a `creates` that is no text counts as not set
abbrev pub run_unless : Option Datum → Work
run_unless None = work.Run
run_unless (Some (text path)) = work.RunUnless (file_at path) (ensure, present)
run_unless (Some value) = work.Run

-- with `refreshonly` it is run for signals alone
abbrev pub exec_work : Bool → Option Datum → Work
exec_work true creates = work.Idle
exec_work false creates = run_unless creates

-- what is done first: the properties are set right, or something is run
abbrev pub work_of : NativeType → List Setting → Work
work_of native.Exec attributes =
    exec_work (is_true (set_in attributes (codes "refreshonly"))) (set_in attributes (codes "creates"))
work_of native.Notify attributes = work.Run
work_of n attributes = work.Set (looked_at (row n).properties attributes)

-- services and execs are refreshed by signals
abbrev pub is_refreshed : NativeType → Bool
is_refreshed native.Service = true
is_refreshed native.Exec = true
is_refreshed n = false

abbrev pub is_noop : List Setting → Bool
is_noop attributes = is_true (set_in attributes (codes "noop"))

abbrev pub task_of : NativeType → Resource → Task
task_of n r = record {
  what = record { kind = r.kind; title = r.title };
  noop = is_noop r.attributes;
  refreshes = is_refreshed n && not (is_noop r.attributes);
  work = work_of n r.attributes;
}

-- classes and instances of defined types have no turn
abbrev pub task_in : Resource → Option Task
task_in r = option_map (λ n. task_of n r) (native_of r.kind)

-- the file that is asked for before something is run
abbrev pub creates_of : Work → Option (List ℕ)
creates_of (work.RunUnless file want) = Some file.title
creates_of other = None
