-- Files of data in which no key's value is faulty, and what such files have for a key.
use Rattle.std.specs.Prelude.{◌≡◌, ⊤, ℕ, Bool, true, false, ◌&&◌, ◌==◌, List, [], ◌∷◌, ◌++◌, length, Option, None, Some}
use Rattle.std.specs.Prelude.{Ok, option_and_then}
use Rattle.std.specs.List.{list_all}
use Rattle.serde_json.specs.Data as j
use Rattle.serde_json.specs.Find.{get}
use Rattle.serde_json.specs.Read.{read}
use Rattle.pp_values.specs.Datum.{Datum}
use Rattle.hiera_config.specs.declared.config.Config.{Config}
use Rattle.hiera_config.specs.declared.config.Level.{Level}
use Rattle.hiera_config.specs.declared.plan.FixedFile.{FixedFile}
use Rattle.hiera_config.specs.declared.site_data.DataFile.{DataFile}
use Rattle.hiera_config.specs.Documents.{File, text_at, strict}
use Rattle.hiera_config.specs.Meant.{Meant, go_on}
use Rattle.hiera_config.specs.Planning.{PathIs, Skips}
use Rattle.hiera_config.specs.SoundData.{is_sound_text}
use Rattle.hiera_config.specs.Sources.{Source, config_in, config_path, global_folder, module_folder, sources}
use Rattle.hiera_config.specs.Variables.{Variables}

-- ---- plans

-- of a file that is kept, or of none
abbrev pub is_sound_if : Option DataFile → Bool
is_sound_if None = true
is_sound_if (Some f) = f.is_sound

abbrev pub is_sound_slot : Option FixedFile → Bool
is_sound_slot None = false
is_sound_slot (Some f) = f.is_sound

-- the configuration that a file is has a sound file for each level; without one there is none
abbrev pub is_nothing : List (Option FixedFile) → Bool
is_nothing [] = true
is_nothing (p ∷ plan) = false

abbrev pub sound_by_config : Option Config → List (Option FixedFile) → Bool
sound_by_config None plan = false
sound_by_config (Some c) plan = (length c.levels == length plan) && list_all is_sound_slot plan

abbrev pub sound_by : Option DataFile → List (Option FixedFile) → Bool
sound_by None plan = is_nothing plan
sound_by (Some f) plan = sound_by_config f.config plan

-- each level has one file, which is found ahead, and no key's value in it is faulty
abbrev pub SoundPlan : List File → List ℕ → List Level → List (Option FixedFile) → Type 0
SoundPlan files folder [] [] = ⊤
SoundPlan files folder [] (p ∷ plan) = ⊥
SoundPlan files folder (l ∷ ls) [] = ⊥
SoundPlan files folder (l ∷ ls) (None ∷ plan) = ⊥
SoundPlan files folder (l ∷ ls) (Some f ∷ plan) =
    PathIs folder l f.path
    × (Skips files f.path f.flags × (is_sound_text (text_at f.path files) ≡ true))
    × SoundPlan files folder ls plan

-- so have the levels of the folder's configuration
pub record SoundLayer (files : List File) (folder : List ℕ) (plan : List (Option FixedFile)) : Type 0 where
  pub config : Config
  pub there : config_in files folder ≡ Ok config
  pub sound : SoundPlan files folder config.levels plan

-- the global layer and the environment
abbrev pub SoundLayers : List File → List (Option FixedFile) → List (Option FixedFile) → Type 0
SoundLayers files global environment = SoundLayer files global_folder global × SoundLayer files [] environment

-- what is lacking in a file of the plan is none of it
abbrev pub SkipsAll : List File → List (Option FixedFile) → Type 0
SkipsAll files [] = ⊤
SkipsAll files (None ∷ plan) = SkipsAll files plan
SkipsAll files (Some f ∷ plan) = Skips files f.path f.flags × SkipsAll files plan

-- ---- what a plan's files have for a key

abbrev pub value_in_data : List ℕ → Option j.Data → Option Datum
value_in_data key None = None
value_in_data key (Some d) = option_and_then strict (get key d)

abbrev pub value_in_text : List ℕ → Option (List ℕ) → Option Datum
value_in_text key None = None
value_in_text key (Some text) = value_in_data key (read text)

abbrev pub value_in_slot : List File → List ℕ → Option FixedFile → Option Datum
value_in_slot files key None = None
value_in_slot files key (Some f) = value_in_text key (text_at f.path files)

abbrev pub or_else : Option Datum → Option Datum → Option Datum
or_else None other = other
or_else (Some d) other = Some d

-- the value of the highest file that has one
abbrev pub first_in : List File → List ℕ → List (Option FixedFile) → Option Datum
first_in files key [] = None
first_in files key (p ∷ plan) = or_else (value_in_slot files key p) (first_in files key plan)

-- the sources in a plan's files
abbrev pub source_if : List ℕ → Option Datum → List Source
source_if path None = []
source_if path (Some d) = (d, path) ∷ []

abbrev pub had_in_slot : List File → List ℕ → Option FixedFile → List Source
had_in_slot files key None = []
had_in_slot files key (Some f) = source_if f.path (value_in_text key (text_at f.path files))

abbrev pub had_in : List File → List ℕ → List (Option FixedFile) → List Source
had_in files key [] = []
had_in files key (p ∷ plan) = had_in_slot files key p ++ had_in files key plan

-- ---- the highest source

abbrev pub first_value : List Source → Option Datum
first_value [] = None
first_value (s ∷ ss) = Some s.0

-- what the highest of these has, if there is one
abbrev pub highest : Meant (List Source) → Meant (Option Datum)
highest meant = go_on meant (λ ss. Ok (first_value ss))

-- whatever the variables
abbrev pub AreSources : List File → Option (List ℕ) → List ℕ → List Source → Type 0
AreSources files name key found = (v : Variables) → sources files v name key ≡ Ok found

-- the module has no configuration
abbrev pub LacksConfig : List File → Option (List ℕ) → Type 0
LacksConfig files None = ⊤
LacksConfig files (Some name) = None ≡ text_at (config_path (module_folder name)) files

-- so they are for each such module
abbrev pub SoundSources : List File → List ℕ → List Source → Type 0
SoundSources files key found = (name : Option (List ℕ)) → LacksConfig files name → AreSources files name key found
