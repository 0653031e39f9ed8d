-- The values that several sources have for one key, the highest first, as one value.
use Rattle.std.specs.Prelude.{Bool, true, false, not, if◌then◌else◌, List, [], ◌∷◌, ◌++◌, Option, Some, None}
use Rattle.std.specs.Prelude.{option_map, unwrap_or}
use Rattle.std.specs.List.{list_any, list_all, fold}
use Rattle.pp_funcs.specs.Lists.{flat, flat_members, with_new}
use Rattle.pp_values.specs.Datum.{Datum, list, hash, Entries, no_entries, entry, Pair, data_of, members_of, entries_of}
use Rattle.pp_values.specs.Datum.{pairs_of}
use Rattle.pp_values.specs.Keys.{value_at, with_pair}
use Rattle.hiera_merge.specs.declared.merge.Merge.{Merge}
use Rattle.hiera_merge.specs.declared.merge.Merge.TheVariants as by

-- ---- unique

-- the members of all values, those of lists within them too; of members that are exactly the same the first
abbrev pub united : Datum → List Datum → List Datum
united high lower = fold with_new [] (flat high ++ flat_members (data_of lower))

-- ---- hash

abbrev pub pairs_in : Datum → List Pair
pairs_in (hash es) = pairs_of es
pairs_in d = []

-- the pairs with these put over them, one after another: in the key's place where it has one, else at the end
abbrev pub with_pairs : List Pair → List Pair → List Pair
with_pairs [] out = out
with_pairs (p ∷ ps) out = with_pairs ps (with_pair p.0 p.1 out)

-- the lower's keys first, in their places, with the higher's values; then the higher's new keys
abbrev pub hash_merge : List Datum → List Pair
hash_merge [] = []
hash_merge (high ∷ lower) = with_pairs (pairs_in high) (hash_merge lower)

-- ---- deep

-- the members of a list
abbrev pub members_in : Datum → List Datum
members_in (list ds) = members_of ds
members_in d = []

-- the lower's members and then the higher's, each once
abbrev pub joined : List Datum → List Datum → List Datum
joined lower higher = fold with_new [] (lower ++ higher)

-- two hashes key by key, with their keys in the order of `hash`; two lists joined; of other values the higher
abbrev mutual
  pub deep : Datum → Datum → Datum
  deep (hash hs) (hash ls) = hash (entries_of (deep_pairs hs (pairs_of ls)))
  deep (list hs) (list ls) = list (data_of (joined (members_of ls) (members_of hs)))
  deep high low = high

  -- the higher's pairs put over the lower's, each value merged with the one that the key has there
  pub deep_pairs : Entries → List Pair → List Pair
  deep_pairs no_entries out = out
  deep_pairs (entry k v es) out = deep_pairs es (with_pair k (unwrap_or (option_map (deep v) (value_at k out)) v) out)

-- from the highest value down, one at a time
abbrev pub deep_merge : Datum → List Datum → Datum
deep_merge out [] = out
deep_merge out (low ∷ lower) = deep_merge (deep out low) lower

-- ---- all four

abbrev pub is_hash : Datum → Bool
is_hash (hash es) = true
is_hash d = false

abbrev pub is_list : Datum → Bool
is_list (list ds) = true
is_list d = false

abbrev pub is_collection : Datum → Bool
is_collection (hash es) = true
is_collection (list ds) = true
is_collection d = false

-- whether the merge takes these values
abbrev pub takes : Merge → List Datum → Bool
takes by.First values = true
takes by.Unique values = not (list_any is_hash values)
takes by.Hash values = list_all is_hash values
takes by.Deep values = list_all is_collection values

-- the merge of the highest value and those below it
abbrev pub merge_all : Merge → Datum → List Datum → Datum
merge_all by.First high lower = high
merge_all by.Unique high lower = list (data_of (united high lower))
merge_all by.Hash high lower = hash (entries_of (hash_merge (high ∷ lower)))
merge_all by.Deep high lower = deep_merge high lower

-- None where the merge does not take the values
abbrev pub merged : Merge → Datum → List Datum → Option Datum
merged merge high lower = if takes merge (high ∷ lower) then Some (merge_all merge high lower) else None
