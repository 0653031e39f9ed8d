-- Merges by name, and what `lookup_options` says of one key.
use Rattle.std.specs.Prelude.{ℕ, if◌then◌else◌, List, Option, Some, None, option_and_then, codes}
use Rattle.std.specs.Str.{bytes_eq}
use Rattle.pp_values.specs.Datum.{Datum, text, hash, Entries, no_entries, entry}
use Rattle.pp_values.specs.Keys.{same_key}
use Rattle.hiera_merge.specs.declared.merge.Merge.{Merge}
use Rattle.hiera_merge.specs.declared.merge.Merge.TheVariants as by

abbrev pub merge_named : List ℕ → Option Merge
merge_named name =
    if bytes_eq name (codes "first") then Some by.First
    else if bytes_eq name (codes "unique") then Some by.Unique
    else if bytes_eq name (codes "hash") then Some by.Hash
    else if bytes_eq name (codes "deep") then Some by.Deep
    else None

-- the value of this key, where it is the only one
abbrev pub sole : List ℕ → Entries → Option Datum
sole name (entry key value no_entries) = if same_key (text name) key then Some value else None
sole name es = None

abbrev pub merge_by_name : Datum → Option Merge
merge_by_name (text name) = merge_named name
merge_by_name d = None

-- a name, or a hash with `strategy` alone, whose value is a name
abbrev pub merge_in : Datum → Option Merge
merge_in (text name) = merge_named name
merge_in (hash es) = option_and_then merge_by_name (sole (codes "strategy") es)
merge_in d = None

-- the options of a key: nothing, or `merge` alone
abbrev pub merge_of : Datum → Option Merge
merge_of (hash no_entries) = Some by.First
merge_of (hash es) = option_and_then merge_in (sole (codes "merge") es)
merge_of d = None
