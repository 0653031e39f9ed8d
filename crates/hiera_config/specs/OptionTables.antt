-- The options of look-ups, where the sources of these are hashes in which nothing is interpolated.
use Rattle.std.specs.Prelude.{◌≡◌, ℕ, Bool, true, false, ◌||◌, if◌then◌else◌, List, [], ◌∷◌, Option, None, Some}
use Rattle.std.specs.Prelude.{option_map, Ok, Err}
use Rattle.std.specs.List.{list_all}
use Rattle.json_values.specs.FromData.{both}
use Rattle.pp_values.specs.Datum.{Datum, Pair, text}
use Rattle.pp_values.specs.Keys.{value_at}
use Rattle.pp_values.specs.Views.{view}
use Rattle.pp_values.specs.declared.value.Value.{Value}
use Rattle.hiera_config.specs.declared.option_table.OptionTable.{OptionTable}
use Rattle.hiera_config.specs.declared.told_options.Told as declared
use Rattle.hiera_config.specs.Documents.{File}
use Rattle.hiera_config.specs.FileOptions.{options_key, is_table, are_plain, options_in, option_among, kept_option}
use Rattle.hiera_config.specs.Meant.{Meant}
use Rattle.hiera_config.specs.Reached.{Reached, file, broken}
use Rattle.hiera_config.specs.Sound.{SoundSources, or_else}
use Rattle.hiera_config.specs.Sources.{Source}
use Rattle.hiera_merge.specs.Digging.{member}

abbrev pub are_tables : List Source → Bool
are_tables ss = list_all (λ s. is_table s.0) ss

-- what the highest of these tables that has the key has for it
abbrev pub first_options : List ℕ → List Source → Option Datum
first_options root [] = None
first_options root (s ∷ ss) = or_else (member root s.0) (first_options root ss)

-- what the options say of a key, if anything, where their sources are told, and are such tables; None where not
abbrev pub option_by : List ℕ → Meant (List Source) → Option (Option Datum)
option_by root (Ok ss) = if are_tables ss then Some (first_options root ss) else None
option_by root (Err w) = None

-- ---- for a whole site

-- these pairs are put over what was kept: of two with one key the first counts
abbrev pub PutsOver : List Pair → List (List ℕ × Value) → List (List ℕ × Value) → Type 0
PutsOver ps old new =
    (root : List ℕ) → option_among new root ≡ or_else (value_at (text root) ps) (option_among old root)

-- the sources are tables, and this is kept of them
abbrev pub KeepsTables : List Source → OptionTable → Type 0
KeepsTables ss table = (are_tables ss ≡ true) × ((root : List ℕ) → kept_option table root ≡ first_options root ss)

-- this is kept of the sources that the options have, whatever the variables, for each module without a configuration
pub record KeepsOptions (files : List File) (table : OptionTable) : Type 0 where
  pub sources : List Source
  pub told : SoundSources files options_key sources
  pub tables : KeepsTables sources table

-- ---- file by file

-- whether there are options, and what they have for a key
abbrev pub Told : Type 0
Told = Bool × Option Datum

abbrev pub told_view : declared.Told → Told
told_view t = (t.has_options, option_map (λ v. view v.now) t.option)

-- of a file with these options, or with none, where they are plain
abbrev pub told_if : List ℕ → Bool → Option Datum → Option Told
told_if root false options = None
told_if root true None = Some (false, None)
told_if root true (Some d) = Some (true, member root d)

abbrev pub told_one : List ℕ → Reached → Option Told
told_one root (file path d) = told_if root (are_plain d) (options_in d)
told_one root (broken w) = None

-- what the higher one says counts
abbrev pub over : Told → Told → Told
over high low = (high.0 || low.0, or_else high.1 low.1)

-- None where it is not plain of one of them
abbrev pub told_all : List ℕ → List Reached → Option Told
told_all root [] = Some (false, None)
told_all root (r ∷ rs) = both over (told_one root r) (told_all root rs)

-- the default levels count where nothing else has options
abbrev pub told_or : Option Told → Option Told → Option (Option Datum)
told_or None default = None
told_or (Some (true, option)) default = Some option
told_or (Some (false, option)) default = option_map (λ t. t.1) default
