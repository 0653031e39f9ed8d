-- One item, and one member, after another.
use Rattle.std.proofs.Common.{◌≡◌, ℕ, zero, suc, ◌+◌, ◌<◌, length, drop, get_or, arith, List, [], ◌∷◌, ◌++◌, Option, Some, None, option_map, String, refl, ap, sym}
use Rattle.std.specs.declared.alloc.Global.{Global}
use Rattle.serde_json.specs.declared.value.Value.{Value as Json}
use Rattle.pp_values.specs.declared.value.Value.{Value}
use Rattle.pp_values.specs.Datum.{Data, Entries, no_data, datum, no_entries, entry, data_of, entries_of}
use Rattle.pp_values.specs.Views.{view, views, pair_views}
use Rattle.json_values.specs.FromData.{both}

abbrev pub Entry : Type 0
Entry = String Global × Json

-- the item of a turn
pub item_at : {X : Type 0} (xs : List X) (i : ℕ) (x : X) → i < length xs → x ≡ get_or xs i x → drop i xs ≡ x ∷ drop (i + 1) xs
item_at [] i x h at = absurd (omega arith)
item_at {X} (y ∷ xs) zero x h at = ap (λ (z : X). z ∷ xs) (sym at)
item_at (y ∷ xs) (suc i) x h at = let h' : i < length xs = omega arith in let e : suc i + 1 ≡ suc (i + 1) = omega arith in rw e (item_at xs i x h' at)

-- ---- lists and hashes, joined

abbrev pub data_then : Data → Data → Data
data_then no_data b = b
data_then (datum d a) b = datum d (data_then a b)

abbrev pub entries_then : Entries → Entries → Entries
entries_then no_entries b = b
entries_then (entry k v a) b = entry k v (entries_then a b)

data_end : (a : Data) → data_then a no_data ≡ a
data_end no_data = refl
data_end (datum d a) = ap (datum d) (data_end a)

entries_end : (a : Entries) → entries_then a no_entries ≡ a
entries_end no_entries = refl
entries_end (entry k v a) = ap (entry k v) (entries_end a)

data_more : (xs : List Value) (x : Value) (b : Data) → data_then (data_of (views (xs ++ x ∷ []))) b ≡ data_then (data_of (views xs)) (datum (view x) b)
data_more [] x b = refl
data_more (y ∷ xs) x b = ap (datum (view y)) (data_more xs x b)

entries_more : (xs : List (Value × Value)) (x : Value × Value) (b : Entries) → entries_then (entries_of (pair_views (xs ++ x ∷ []))) b ≡ entries_then (entries_of (pair_views xs)) (entry (view x.0) (view x.1) b)
entries_more [] x b = refl
entries_more (y ∷ xs) x b = ap (entry (view y.0) (view y.1)) (entries_more xs x b)

-- ---- what was made so far, and what becomes of what is left

abbrev pub list_so_far : List Value → Option Data → Option Data
list_so_far values rest = option_map (data_then (data_of (views values))) rest

abbrev pub hash_so_far : List (Value × Value) → Option Entries → Option Entries
hash_so_far pairs rest = option_map (entries_then (entries_of (pair_views pairs))) rest

pub list_step : (rest : Option Data) (values : List Value) (value : Value) → list_so_far (values ++ value ∷ []) rest ≡ list_so_far values (both datum (Some (view value)) rest)
list_step None values value = refl
list_step (Some b) values value = ap Some (data_more values value b)

pub hash_step : (rest : Option Entries) (pairs : List (Value × Value)) (pair : Value × Value) → hash_so_far (pairs ++ pair ∷ []) rest ≡ hash_so_far pairs (both (entry (view pair.0)) (Some (view pair.1)) rest)
hash_step None pairs pair = refl
hash_step (Some b) pairs pair = ap Some (entries_more pairs pair b)

pub list_whole : (values : List Value) → list_so_far values (Some no_data) ≡ Some (data_of (views values))
list_whole values = ap Some (data_end (data_of (views values)))

pub hash_whole : (pairs : List (Value × Value)) → hash_so_far pairs (Some no_entries) ≡ Some (entries_of (pair_views pairs))
hash_whole pairs = ap Some (entries_end (entries_of (pair_views pairs)))
