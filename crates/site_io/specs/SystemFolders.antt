-- What the adapter over the system's folders makes of what std tells it.
use Rattle.std.specs.Prelude.{◌≡◌, ℕ, codes, List, [], ◌∷◌, ◌++◌, Result, Ok, Err}
use Rattle.std.specs.IoError.{error_kind}
use Rattle.std.specs.Fs.{file_type, IsDir, IsFile}
use Rattle.std.specs.declared.fs.attrs.Metadata.{Metadata}
use Rattle.std.specs.declared.io.Error.{Error}
use Rattle.std.specs.declared.io.ErrorKind.{ErrorKind}
use Rattle.std.specs.declared.io.ErrorKind.TheVariants as kind
use Rattle.pp_values.specs.Rising.{with_texts}
use Rattle.site_io.specs.declared.folder_tree.FolderStop.{FolderStop}
use Rattle.site_io.specs.declared.folder_tree.FolderStop.TheVariants as stop
use Rattle.site_io.specs.declared.folder_tree.Seen.{Seen}
use Rattle.site_io.specs.declared.folder_tree.Seen.TheVariants as seen

-- There is nothing only where the system says so: what may not be looked at, and whatever else is wrong, is a fault.
abbrev pub stop_for : ErrorKind → FolderStop
stop_for kind.NotFound = stop.Missing
stop_for kind.NotADirectory = stop.Missing
stop_for kind.OutOfMemory = stop.Memory
stop_for _ = stop.Fault

-- what lies where the system looked
abbrev pub IsSeen : Result Metadata Error → Result Seen FolderStop → Type 0
IsSeen (Ok metadata) (Ok seen.Folder) = IsDir (file_type metadata)
IsSeen (Ok metadata) (Ok seen.File) = IsFile (file_type metadata)
IsSeen (Ok metadata) (Ok seen.Other) = (IsDir (file_type metadata) → ⊥) × (IsFile (file_type metadata) → ⊥)
IsSeen (Ok metadata) (Err why) = ⊥
IsSeen (Err error) (Ok what) = ⊥
IsSeen (Err error) (Err why) = why ≡ stop_for (error_kind error)

-- the name by which it is listed, if it is: a link that leads nowhere is not
abbrev pub name_seen : Result Seen FolderStop → List ℕ → Result (List (List ℕ)) FolderStop
name_seen (Ok seen.Folder) name = Ok ((name ++ codes "/") ∷ [])
name_seen (Ok seen.File) name = Ok (name ∷ [])
name_seen (Ok seen.Other) name = Ok []
name_seen (Err stop.Missing) name = Ok []
name_seen (Err stop.Fault) name = Err stop.Fault
name_seen (Err stop.Memory) name = Err stop.Memory

-- The names are put among those that are there, or the cause is told, unless memory ran out.
abbrev pub PutsSeen : {U : Type 0} → Result U FolderStop → Result (List (List ℕ)) FolderStop → List (List ℕ) →
    List (List ℕ) → Type 0
PutsSeen (Ok done) (Ok names) before after = after ≡ with_texts before names
PutsSeen (Ok done) (Err why) before after = ⊥
PutsSeen (Err stop.Memory) meant before after = Unit {0}
PutsSeen (Err stop.Missing) meant before after = ⊥
PutsSeen (Err stop.Fault) meant before after = meant ≡ Err stop.Fault
