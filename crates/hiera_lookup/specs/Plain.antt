-- Where it is plain what the options say of how a key is merged.
use Rattle.std.specs.Prelude.{ℕ, ◌||◌, ◌==◌, if◌then◌else◌, List, map, Option, None, Some, option_and_then}
use Rattle.pp_values.specs.Datum.{Datum, Pair}
use Rattle.hiera_config.specs.OptionTables.{option_by}
use Rattle.hiera_config.specs.Sources.{Source}
use Rattle.hiera_merge.specs.declared.merge.Merge.{Merge}
use Rattle.hiera_merge.specs.declared.merge.Merge.TheVariants as by
use Rattle.hiera_merge.specs.Merges.{hash_merge}
use Rattle.hiera_merge.specs.Options.{merge_of}
use Rattle.hiera_lookup.specs.Look.{is_busy}
use Rattle.hiera_lookup.specs.Options.{options_key}
use Rattle.hiera_lookup.specs.World.{World}

-- the pairs of hashes, joined one level deep
abbrev pub joined_tables : List Source → List Pair
joined_tables ss = hash_merge (map (λ s. s.0) ss)

-- the merge by these options of a key, or by none; None where they are no options
abbrev pub merge_by : Option Datum → Option Merge
merge_by None = Some by.First
merge_by (Some options) = merge_of options

-- the merge of a root key by options that are hashes in which nothing is interpolated, where a look-up for them may
-- begin; None where this is not so, or they are no options
abbrev pub plain_merge : World → ℕ → List (List ℕ) → Option (List ℕ) → List ℕ → Option Merge
plain_merge w left busy of_module root =
    if (left == 0) || is_busy busy options_key then None
    else option_and_then merge_by (option_by root (w.had of_module options_key))
