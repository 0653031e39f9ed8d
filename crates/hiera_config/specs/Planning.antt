-- Data files whose paths have no variables, as they are found before any key is looked up.
use Rattle.std.specs.Prelude.{◌≡◌, ⊤, ℕ, Bool, true, not, Vec, List, [], ◌∷◌, Option, None, Some, Ok, codes, slice_get}
use Rattle.std.specs.declared.alloc.Global.{Global}
use Rattle.serde_json.specs.Read.{read}
use Rattle.hiera_config.specs.declared.config.Config.{Config}
use Rattle.hiera_config.specs.declared.config.Level.{Level}
use Rattle.hiera_config.specs.declared.plan.FixedFile.{FixedFile}
use Rattle.hiera_config.specs.Config.{one_template}
use Rattle.hiera_config.specs.Cuts.{cut_at}
use Rattle.hiera_config.specs.Documents.{File, text_at}
use Rattle.hiera_config.specs.Flags.{mark_of, may_have, HasNo}
use Rattle.hiera_config.specs.SoundData.{is_sound_text}
use Rattle.hiera_config.specs.Sources.{joined_path, config_in, global_folder}

-- of flags, or of no file
abbrev pub lacks_by : Option (Vec Bool Global) → ℕ → Bool
lacks_by None mark = true
lacks_by (Some flags) mark = not (may_have flags.items mark)

abbrev pub lacks : FixedFile → ℕ → Bool
lacks f mark = lacks_by f.flags mark

-- the text of a file has nothing for a key, or there is no file
abbrev pub HasNoneAt : List ℕ → Option (List ℕ) → Type 0
HasNoneAt key None = ⊤
HasNoneAt key (Some text) = HasNo key (read text)

-- a key that is lacking is none of the file's at this path
abbrev pub Skips : List File → List ℕ → Option (Vec Bool Global) → Type 0
Skips files path flags = (key : List ℕ) → lacks_by flags (mark_of key) ≡ true → HasNoneAt key (text_at path files)

-- no key's value is faulty in the file at this path, where the flag says so
abbrev pub Sounds : List File → List ℕ → Bool → Type 0
Sounds files path flag = flag ≡ true → is_sound_text (text_at path files) ≡ true

-- the level has this path alone, and no variables in it
pub record PathIs (folder : List ℕ) (level : Level) (path : List ℕ) : Type 0 where
  pub template : List ℕ
  pub sole : level.paths ≡ one_template template
  pub fixed_folder : None ≡ cut_at (codes "%{") level.folder
  pub fixed_template : None ≡ cut_at (codes "%{") template
  pub joined : path ≡ joined_path folder level.folder template

abbrev pub Fits : List File → List ℕ → Level → Option FixedFile → Type 0
Fits files folder level None = ⊤
Fits files folder level (Some f) =
    PathIs folder level f.path × Skips files f.path f.flags × Sounds files f.path f.is_sound

-- level by level, as far as both go
abbrev pub Planned : List File → List ℕ → List Level → List (Option FixedFile) → Type 0
Planned files folder [] plan = ⊤
Planned files folder (l ∷ ls) [] = ⊤
Planned files folder (l ∷ ls) (p ∷ plan) = Fits files folder l p × Planned files folder ls plan

abbrev pub PlannedIf : List File → List ℕ → Option Config → List (Option FixedFile) → Type 0
PlannedIf files folder None plan = ⊤
PlannedIf files folder (Some c) plan = Planned files folder c.levels plan

-- by the levels of the folder's configuration, where it has one
abbrev pub PlannedAt : List File → List ℕ → List (Option FixedFile) → Type 0
PlannedAt files folder plan = (c : Config) → config_in files folder ≡ Ok c → Planned files folder c.levels plan

-- of the global layer and of the environment
abbrev pub ArePlanned : List File → List (Option FixedFile) → List (Option FixedFile) → Type 0
ArePlanned files global environment = PlannedAt files global_folder global × PlannedAt files [] environment

-- the file that is found ahead for the level of this number
abbrev pub or_none : Option (Option FixedFile) → Option FixedFile
or_none None = None
or_none (Some slot) = slot

abbrev pub slot_at : List (Option FixedFile) → ℕ → Option FixedFile
slot_at plan place = or_none (slice_get plan place)
