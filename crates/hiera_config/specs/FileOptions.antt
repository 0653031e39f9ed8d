-- The options of look-ups that one file has, where these are a hash in which nothing is interpolated.
use Rattle.std.specs.Prelude.{◌≡◌, ⊤, ℕ, Bool, true, false, ◌&&◌, List, Option, None, Some, option_map, option_and_then}
use Rattle.std.specs.Prelude.{codes}
use Rattle.std.specs.BTreeMap.{is_at}
use Rattle.std.specs.Map.{lookup}
use Rattle.serde_json.specs.Data.{Data}
use Rattle.serde_json.specs.Find.{get}
use Rattle.pp_values.specs.Datum.{Datum}
use Rattle.pp_values.specs.Rising.{text_cmp}
use Rattle.pp_values.specs.Views.{view}
use Rattle.pp_values.specs.declared.value.Value.{Value}
use Rattle.hiera_config.specs.declared.file_options.FileOptions.{FileOptions}
use Rattle.hiera_config.specs.declared.option_table.OptionTable.{OptionTable}
use Rattle.hiera_config.specs.Documents.{is_document, strict}
use Rattle.hiera_config.specs.Literals.{is_literal}
use Rattle.hiera_merge.specs.Digging.{member}
use Rattle.hiera_merge.specs.Merges.{is_hash}

-- the key under which data files keep the options of look-ups
abbrev pub options_key : List ℕ
options_key = codes "lookup_options"

-- a hash in which nothing is interpolated
abbrev pub is_table : Datum → Bool
is_table d = is_hash d && is_literal d

-- ---- what JSON has

abbrev pub options_in : Option Data → Option Datum
options_in None = None
options_in (Some d) = option_and_then strict (get options_key d)

abbrev pub is_plain_value : Option Datum → Bool
is_plain_value None = false
is_plain_value (Some d) = is_table d

abbrev pub is_plain_member : Option Data → Bool
is_plain_member None = true
is_plain_member (Some d) = is_plain_value (strict d)

-- it is a document, and its options, if it has any, are such a hash
abbrev pub are_plain : Option Data → Bool
are_plain None = false
are_plain (Some d) = is_document d && is_plain_member (get options_key d)

-- ---- what is kept of it

-- for a key
abbrev pub option_among : List (List ℕ × Value) → List ℕ → Option Datum
option_among es root = option_map view (lookup (is_at (text_cmp root)) es)

abbrev pub kept_option : OptionTable → List ℕ → Option Datum
kept_option table root = option_among table.by_key.entries root

-- for each key what this hash has, if there is one
abbrev pub IsTableOf : Option OptionTable → Option Datum → Type 0
IsTableOf None None = ⊤
IsTableOf (Some table) (Some d) = (root : List ℕ) → kept_option table root ≡ member root d
IsTableOf table d = ⊥

-- whether the options are plain, and what they are, if there are any
pub record Keeps (plain : Bool) (value : Option Datum) (options : FileOptions) : Type 0 where
  pub told : options.are_plain ≡ plain
  pub table : options.are_plain ≡ true → IsTableOf options.table value

abbrev pub KeepsFile : Option Data → FileOptions → Type 0
KeepsFile json options = Keeps (are_plain json) (options_in json) options
