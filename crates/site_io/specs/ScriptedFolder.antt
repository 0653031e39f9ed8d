-- What contracts see of a tree in memory.
use Rattle.std.specs.Prelude.{◌≡◌, ℕ, Bool, if◌then◌else◌, nat_eq, List, [], Option, None, Some}
use Rattle.std.specs.List.{list_any}
use Rattle.std.specs.BTreeMap.{insert_entry}
use Rattle.pp_values.specs.Rising.{text_cmp}
use Rattle.site_io.specs.Stream.{next_count}
use Rattle.site_io.specs.Folders.{Folder, Held}

-- a tree that tells these files, and of its calls nothing
abbrev pub told_folder : ℕ → List Held → Folder
told_folder faults files = record { faults = faults; told = Some files; calls = None }

pub record ScriptedFolder : Type 0 where
  pub faults : ℕ
  pub files : List Held
  -- how many calls it has met
  pub calls : ℕ
  -- the numbers of the calls that are to fail, counted from 1
  pub failing : List ℕ

abbrev pub folder_of : ScriptedFolder → Folder
folder_of s = told_folder s.faults s.files

-- whether the next call is to fail
abbrev pub is_failing_call : ScriptedFolder → Bool
is_failing_call s = list_any (λ n. nat_eq n (next_count s.calls)) s.failing

-- One call was counted, and a fault where it was to fail. The files stay.
pub record IsNextVisit (failed : Bool) (before after : ScriptedFolder) : Type 0 where
  pub calls : after.calls ≡ next_count before.calls
  pub failing : after.failing ≡ before.failing
  pub files : after.files ≡ before.files
  pub faults : after.faults ≡ (if failed then next_count before.faults else before.faults)

-- a tree without files, before its first call
abbrev pub new_folder : List ℕ → ScriptedFolder
new_folder failing = record { faults = 0; files = []; calls = 0; failing = failing }

-- with this at a path, in place of what stood there
abbrev pub holding : List ℕ → Option (List ℕ) → ScriptedFolder → ScriptedFolder
holding path held s =
    record { faults = s.faults; files = insert_entry text_cmp s.files path held; calls = s.calls; failing = s.failing }
