-- The place of each key of a hash that is put together pair by pair.
use Rattle.std.proofs.Common.{◌≡◌, ◌∙◌, ◌<◌, ℕ, zero, suc, Bool, true, false, cond, Option, None, Some, List, [], ◌∷◌, ◌++◌, length, refl, ap, sym, arith, if◌then◌else◌, true≢false}
use Rattle.std.proofs.Common.{Ordering, Less, Equal, Greater}
use Rattle.std.proofs.lemmas.Cmp.{nat_list_cmp_total}
use Rattle.std.proofs.lemmas.Grind.{common_steps}
use Rattle.std.proofs.lemmas.Map.Text.{is_eq-slice_cmp}
use Rattle.std.specs.BTreeMap.{get, is_at}
use Rattle.std.specs.Ordering.{int_cmp, is_eq, ordering_reverse}
use Rattle.std.specs.Prelude.{IsTrue, option_map}
use Rattle.std.specs.Str.{bytes_eq}
use Rattle.pp_values.proofs.Distinct.{are_distinct-append, are_distinct-with_value, with_pair-no_place, with_pair-place, one_key}
use Rattle.pp_values.specs.Datum.{Datum, Pair, int, text}
use Rattle.pp_values.specs.Keys.{are_distinct, is_key, same_key, with_pair}
use Rattle.pp_values.specs.Places.{place_of, with_value}
use Rattle.pp_values.specs.Rising.{text_cmp}
use Rattle.hiera_merge.specs.declared.key_places.KeyPlaces.{KeyPlaces}
use Rattle.hiera_merge.specs.KeyPlaces.{placed, ArePlaced}

-- ---- lists of pairs

-- a place is that of a pair
pub place_within : (k : Datum) (ps : List Pair) (n : ℕ) → place_of k ps ≡ Some n → n < length ps
place_within k [] n e = cc
place_within k (p ∷ ps) zero e = grind (arith, common_steps)
place_within k (p ∷ ps) (suc n) e = grind (arith, common_steps, place_within k ps n)

-- a value that is set moves no key
places_kept : (v : Datum) (n : ℕ) (k : Datum) (ps : List Pair) → place_of k (with_value v n ps) ≡ place_of k ps
places_kept v n k [] = refl
places_kept v zero k (p ∷ ps) = refl
places_kept v (suc n) k (p ∷ ps) = rw (places_kept v n k ps) refl

none_further : (o : Option ℕ) → option_map suc o ≡ None → o ≡ None
none_further None e = refl
none_further (Some n) e = cc

first_apart : (k : Datum) (p : Pair) (ps : List Pair) → place_of k (p ∷ ps) ≡ None → same_key k p.0 ≡ false
first_apart k p ps h = elim (same_key k p.0)
    as (λ b. cond b (Some 0) (option_map suc (place_of k ps)) ≡ None → b ≡ false)
    [ true ↦ λ e. cc | false ↦ λ e. refl ] h

rest_apart : (k : Datum) (p : Pair) (ps : List Pair) → place_of k (p ∷ ps) ≡ None → place_of k ps ≡ None
rest_apart k p ps h = elim (same_key k p.0)
    as (λ b. cond b (Some 0) (option_map suc (place_of k ps)) ≡ None → place_of k ps ≡ None)
    [ true ↦ λ e. cc | false ↦ λ e. none_further (place_of k ps) e ] h

in_turn : (b c : Bool) (n : ℕ) (o : Option ℕ) → (c ≡ true → b ≡ false)
    → cond b (Some 0) (option_map suc (cond c (Some n) o)) ≡ cond c (Some (suc n)) (cond b (Some 0) (option_map suc o))
in_turn true true n o apart = absurd (true≢false (apart refl))
in_turn true false n o apart = refl
in_turn false true n o apart = refl
in_turn false false n o apart = refl

-- a pair behind those that are there has its place behind theirs
place_behind : (k v j : Datum) (ps : List Pair) → place_of k ps ≡ None
    → place_of j (ps ++ (k, v) ∷ []) ≡ (if same_key j k then Some (length ps) else place_of j ps)
place_behind k v j [] none = refl
place_behind k v j (p ∷ ps) none =
    let rest = place_behind k v j ps (rest_apart k p ps none) in
    let apart : same_key j k ≡ true → same_key j p.0 ≡ false =
    λ same. ap (λ x. same_key x p.0) (one_key j k same) ∙ first_apart k p ps none in
    ap (λ o. cond (same_key j p.0) (Some 0) (option_map suc o)) rest
    ∙ in_turn (same_key j p.0) (same_key j k) (length ps) (place_of j ps) apart

pub pair_set : (k v : Datum) (ps qs : List Pair) (n : ℕ) → place_of k ps ≡ Some n → qs ≡ with_value v n ps
    → qs ≡ with_pair k v ps
pair_set k v ps qs n is set = set ∙ sym (with_pair-place k v ps n is)

pub pair_added : (k v : Datum) (ps qs : List Pair) → place_of k ps ≡ None → qs ≡ ps ++ (k, v) ∷ []
    → qs ≡ with_pair k v ps
pair_added k v ps qs none added = added ∙ sym (with_pair-no_place k v ps none)

-- ---- with their tables

-- tables without entries have no places
pub none_placed : (places : KeyPlaces) → places.numbers.entries ≡ [] → places.texts.entries ≡ []
    → ArePlaced places []
none_placed places no_numbers no_texts (int z) = rw no_numbers refl
none_placed places no_numbers no_texts (text t) = rw no_texts refl
none_placed places no_numbers no_texts k = refl

pub placed_more : (places more : KeyPlaces) (k v : Datum) (n : ℕ)
    (ps qs : List Pair) → ArePlaced places ps → place_of k ps ≡ None → n ≡ length ps
    → ((j : Datum) → placed j more ≡ (if same_key j k then Some n else placed j places))
    → qs ≡ ps ++ (k, v) ∷ [] → ArePlaced more qs
placed_more places more k v n ps qs were none last changes is = λ j.
    changes j
    ∙ ap (λ o. if same_key j k then Some n else o) (were j)
    ∙ ap (λ m. if same_key j k then Some m else place_of j ps) last
    ∙ sym (place_behind k v j ps none)
    ∙ ap (place_of j) (sym is)

-- what a hash keeps where a value is set, and where a pair is added
pub kept_whole : (places : KeyPlaces) (v : Datum) (n : ℕ) (ps qs : List Pair)
    → IsTrue (are_distinct ps) × ArePlaced places ps → qs ≡ with_value v n ps
    → IsTrue (are_distinct qs) × ArePlaced places qs
kept_whole places v n ps qs whole is =
    (rw (is, are_distinct-with_value) whole.0, λ k. whole.1 k ∙ sym (places_kept v n k ps) ∙ ap (place_of k) (sym is))

pub more_whole : (places more : KeyPlaces) (k v : Datum) (n : ℕ)
    (ps qs : List Pair) → IsTrue (are_distinct ps) × ArePlaced places ps → IsTrue (is_key k)
    → place_of k ps ≡ None → n ≡ length ps
    → ((j : Datum) → placed j more ≡ (if same_key j k then Some n else placed j places))
    → qs ≡ ps ++ (k, v) ∷ [] → IsTrue (are_distinct qs) × ArePlaced more qs
more_whole places more k v n ps qs whole key none last changes is = (
  rw is (are_distinct-append k v ps key none whole.0),
  placed_more places more k v n ps qs whole.1 none last changes is,
)

-- ---- the tables

reversed : (r : Ordering) → is_eq (ordering_reverse r) ≡ is_eq r
reversed Less = refl
reversed Equal = refl
reversed Greater = refl

pub text_placed : (old new : KeyPlaces) (u w : List ℕ) (n : ℕ) → u ≡ w → new.numbers ≡ old.numbers
    → ((q : List ℕ) → get text_cmp new.texts q ≡ cond (is_at (text_cmp u) q) (Some n) (get text_cmp old.texts q))
    → (k : Datum) → placed k new ≡ (if same_key k (text w) then Some n else placed k old)
text_placed old new u w n is same changes (text t) =
    changes t
    ∙ ap (λ b. cond b (Some n) (get text_cmp old.texts t))
    (ap is_eq (nat_list_cmp_total.antisymm u t) ∙ reversed (text_cmp t u) ∙ is_eq-slice_cmp t u)
    ∙ ap (λ x. if bytes_eq t x then Some n else get text_cmp old.texts t) is
text_placed old new u w n is same changes (int y) = ap (λ m. get int_cmp m y) same
text_placed old new u w n is same changes k = refl

-- the place that the tables tell
pub told_place : (places : KeyPlaces) (k : Datum) (ps qs : List Pair) (o : Option ℕ) → ArePlaced places ps → ps ≡ qs
    → o ≡ placed k places → o ≡ place_of k qs
told_place places k ps qs o are is told = told ∙ are k ∙ ap (place_of k) is
