-- What a hash's edits do to its pairs and its keys.
use Rattle.std.proofs.Common.{◌≡◌, ℕ, zero, suc, ◌<◌, ◌&&◌, Bool, true, false, IsTrue, not, cond, None, Some, List, [], ◌∷◌, ◌++◌, length, refl, ap, sym, subst, ◌∙◌, arith, get_or, true≢false}
use Rattle.std.specs.Prelude.{slice_set}
use Rattle.std.specs.Cmp.{first_so, second_so, signed_Decides}
use Rattle.std.proofs.lemmas.Slice.Eq.{bytes_eq-Decides}
use Rattle.std.proofs.lemmas.Grind.{common_steps}
use Rattle.pp_values.specs.declared.value.Value.{Value}
use Rattle.pp_values.specs.Datum.{Datum, int, text, Pair}
use Rattle.pp_values.specs.Keys.{is_key, same_key, lacks, are_distinct, value_at, with_pair, without_key}
use Rattle.pp_values.specs.Places.{place_of, with_value, without_place}
use Rattle.pp_values.specs.Views.{view, pair_view, pair_views}

-- a key without a place
pub with_pair-no_place : (k v : Datum) (ps : List Pair) → place_of k ps ≡ None → with_pair k v ps ≡ ps ++ (k, v) ∷ []
with_pair-no_place k v [] e = refl
with_pair-no_place k v (p ∷ ps) e = grind (arith, common_steps, with_pair-no_place k v ps)

pub without_key-no_place : (k : Datum) (ps : List Pair) → place_of k ps ≡ None → without_key k ps ≡ ps
without_key-no_place k [] e = refl
without_key-no_place k (p ∷ ps) e = grind (arith, common_steps, without_key-no_place k ps)

-- a key with a place
pub with_pair-place : (k v : Datum) (ps : List Pair) (n : ℕ) → place_of k ps ≡ Some n → with_pair k v ps ≡ with_value v n ps
with_pair-place k v [] n e = cc
with_pair-place k v (p ∷ ps) zero e = grind (arith, common_steps, with_pair-place k v ps)
with_pair-place k v (p ∷ ps) (suc n) e = grind (arith, common_steps, with_pair-place k v ps n)

pub without_key-place : (k : Datum) (ps : List Pair) (n : ℕ) → place_of k ps ≡ Some n → without_key k ps ≡ without_place n ps
without_key-place k [] n e = cc
without_key-place k (p ∷ ps) zero e = grind (arith, common_steps, without_key-place k ps)
without_key-place k (p ∷ ps) (suc n) e = grind (arith, common_steps, without_key-place k ps n)

-- keys stay distinct where a value is set, a pair is taken out, and a new key is appended
lacks-with_value : (k v : Datum) (n : ℕ) (ps : List Pair) → lacks k (with_value v n ps) ≡ lacks k ps
lacks-with_value k v n [] = refl
lacks-with_value k v zero (p ∷ ps) = refl
lacks-with_value k v (suc n) (p ∷ ps) = rw (lacks-with_value k v n ps) refl

pub are_distinct-with_value : (v : Datum) (n : ℕ) (ps : List Pair) → are_distinct (with_value v n ps) ≡ are_distinct ps
are_distinct-with_value v n [] = refl
are_distinct-with_value v zero (p ∷ ps) = refl
are_distinct-with_value v (suc n) (p ∷ ps) = rw (lacks-with_value p.0 v n ps, are_distinct-with_value v n ps) refl

lacks-without_place : (k : Datum) (n : ℕ) (ps : List Pair) → IsTrue (lacks k ps) → IsTrue (lacks k (without_place n ps))
lacks-without_place k n [] h = h
lacks-without_place k zero (p ∷ ps) h = grind arith
lacks-without_place k (suc n) (p ∷ ps) h = grind (arith, lacks-without_place k n ps)

pub are_distinct-without_place : (n : ℕ) (ps : List Pair) → IsTrue (are_distinct ps) → IsTrue (are_distinct (without_place n ps))
are_distinct-without_place n [] h = h
are_distinct-without_place zero (p ∷ ps) h = grind arith
are_distinct-without_place (suc n) (p ∷ ps) h = grind (arith, are_distinct-without_place n ps, lacks-without_place p.0 n ps)

lacks-append : (j k v : Datum) (ps : List Pair) → lacks j (ps ++ (k, v) ∷ []) ≡ (lacks j ps && not (same_key k j))
lacks-append j k v [] = grind arith
lacks-append j k v (p ∷ ps) = grind (arith, lacks-append j k v ps)

pub are_distinct-append : (k v : Datum) (ps : List Pair) → IsTrue (is_key k) → place_of k ps ≡ None → IsTrue (are_distinct ps) →
    IsTrue (are_distinct (ps ++ (k, v) ∷ []))
are_distinct-append k v [] key e h = grind arith
are_distinct-append k v (p ∷ ps) key e h = grind (arith, common_steps, are_distinct-append k v ps, lacks-append p.0 k v ps)

-- what the edits of the code's own list are
pub pair_views-set : (items : List (Value × Value)) (n : ℕ) (v : Value) (d : Value × Value) → n < length items →
    pair_views (slice_set items n ((get_or items n d).0, v)) ≡ with_value (view v) n (pair_views items)
pair_views-set [] n v d h = absurd (omega (arith, h))
pair_views-set (x ∷ xs) zero v d h = refl
pair_views-set (x ∷ xs) (suc n) v d h = let h' : n < length xs = omega (arith, h) in ap (λ ps. pair_view x ∷ ps) (pair_views-set xs n v d h')

-- two keys that are the same are one
pub one_key : (a b : Datum) → same_key a b ≡ true → a ≡ b
one_key (int x) (int y) h = ap int ((signed_Decides x y).0 h)
one_key (text x) (text y) h = ap text ((bytes_eq-Decides x y).0 h)
one_key a b h = absurd (true≢false (sym h))

pub not_so : (b : Bool) → IsTrue (not b) → b ≡ false
not_so true is = absurd (cc is)
not_so false is = refl

-- a pair at some place that has the key is the one that is found, since no other one has it
other_key : (k j : Datum) (items : List (Value × Value)) (n : ℕ) (d : Value × Value) → n < length items →
    IsTrue (lacks j (pair_views items)) → same_key k (view (get_or items n d).0) ≡ true → same_key k j ≡ false
other_key k j [] n d h without same = absurd (omega (arith, h))
other_key k j (x ∷ xs) zero d h without same =
    subst (λ q. same_key q j ≡ false) (sym (one_key k (view x.0) same))
    (not_so (same_key (view x.0) j) (first_so (not (same_key (view x.0) j)) _ without))
other_key k j (x ∷ xs) (suc n) d h without same =
    let h' : n < length xs = omega (arith, h) in
    other_key k j xs n d h' (second_so (not (same_key (view x.0) j)) _ without) same

pub value_at-place : (k : Datum) (items : List (Value × Value)) (n : ℕ) (d : Value × Value) → n < length items →
    IsTrue (are_distinct (pair_views items)) → same_key k (view (get_or items n d).0) ≡ true →
    value_at k (pair_views items) ≡ Some (view (get_or items n d).1)
value_at-place k [] n d h distinct same = absurd (omega (arith, h))
value_at-place k (x ∷ xs) zero d h distinct same = ap (λ b. cond b (Some (view x.1)) (value_at k (pair_views xs))) same
value_at-place k (x ∷ xs) (suc n) d h distinct same =
    let h' : n < length xs = omega (arith, h) in
    let rest : IsTrue (lacks (view x.0) (pair_views xs) && are_distinct (pair_views xs)) = second_so (is_key (view x.0)) _ distinct in
    ap (λ b. cond b (Some (view x.1)) (value_at k (pair_views xs)))
    (other_key k (view x.0) xs n d h' (first_so (lacks (view x.0) (pair_views xs)) _ rest) same)
    ∙ value_at-place k xs n d h' (second_so (lacks (view x.0) (pair_views xs)) _ rest) same
