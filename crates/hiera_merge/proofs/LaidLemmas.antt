-- The lower's pairs gone through one after another, in place of the higher's: what both ways lead to is the same.
use Rattle.std.proofs.Common.{◌≡◌, ℕ, ◌≤◌, Bool, true, false, not, cond, None, Some, Option, IsTrue, List, [], ◌∷◌, refl, ap, sym, subst, ◌∙◌, arith, true≢false}
use Rattle.std.specs.Prelude.{option_map, unwrap_or}
use Rattle.std.specs.Cmp.{first_so, second_so}
use Rattle.pp_values.specs.Datum.{Datum, undef, flag, int, text, list, hash, reference, kind, default, Pair, Entries, no_entries, entry, entries_of, pairs_of}
use Rattle.pp_values.specs.Keys.{is_key, same_key, are_distinct, lacks, value_at, with_pair, without_key}
use Rattle.pp_values.specs.Places.{place_of}
use Rattle.pp_values.specs.Sizes.{datum_size, pairs_size, entries_size}
use Rattle.pp_values.proofs.Distinct.{one_key, not_so, with_pair-no_place, with_pair-place, without_key-no_place, without_key-place, are_distinct-with_value, are_distinct-append, are_distinct-without_place}
use Rattle.hiera_merge.specs.Merges.{pairs_in, deep, deep_pairs}
use Rattle.hiera_merge.specs.DeepSteps.{met, laid}

-- ---- keys

-- the order of the two says nothing
turned : (a b : Datum) → same_key a b ≡ true → same_key b a ≡ true
turned a b h =
    let e : a ≡ b = one_key a b h in
    ap (λ x. same_key b x) e ∙ sym (ap (λ x. same_key x b) e) ∙ h

by_turns : (x y : Bool) → (x ≡ true → y ≡ true) → (y ≡ true → x ≡ true) → x ≡ y
by_turns true true f g = refl
by_turns false false f g = refl
by_turns true false f g = absurd (true≢false (sym (f refl)))
by_turns false true f g = absurd (true≢false (sym (g refl)))

pub either_way : (a b : Datum) → same_key a b ≡ same_key b a
either_way a b = by_turns (same_key a b) (same_key b a) (turned a b) (turned b a)

-- ---- a key that no pair has

pub apart : (k : Datum) (p : Pair) (ps : List Pair) → IsTrue (lacks k (p ∷ ps)) → same_key k p.0 ≡ false
apart k p ps h = either_way k p.0 ∙ not_so (same_key p.0 k) (first_so (not (same_key p.0 k)) _ h)

pub no_value : (k : Datum) (ps : List Pair) → IsTrue (lacks k ps) → value_at k ps ≡ None
no_value k [] h = refl
no_value k (p ∷ ps) h =
    ap (λ b. cond b (Some p.1) (value_at k ps)) (apart k p ps h)
    ∙ no_value k ps (second_so (not (same_key p.0 k)) _ h)

none_out : (k : Datum) (ps : List Pair) → IsTrue (lacks k ps) → without_key k ps ≡ ps
none_out k [] h = refl
none_out k (p ∷ ps) h =
    ap (λ b. cond b ps (p ∷ without_key k ps)) (apart k p ps h)
    ∙ ap (λ qs. p ∷ qs) (none_out k ps (second_so (not (same_key p.0 k)) _ h))

pub rest_lacks : (p : Pair) (ps : List Pair) → IsTrue (are_distinct (p ∷ ps)) → IsTrue (lacks p.0 ps)
rest_lacks p ps h = first_so (lacks p.0 ps) _ (second_so (is_key p.0) _ h)

pub rest_distinct : (p : Pair) (ps : List Pair) → IsTrue (are_distinct (p ∷ ps)) → IsTrue (are_distinct ps)
rest_distinct p ps h = second_so (lacks p.0 ps) _ (second_so (is_key p.0) _ h)

-- ---- the lower's first pair

-- where the higher's first key is the lower's, and where it is another
first_of : (b : Bool) (k l : Datum) (p : Pair) (hs ls : List Pair)
    → (b ≡ true → value_at k hs ≡ None) → (b ≡ true → without_key k hs ≡ hs)
    → ((m : Datum) (ms : List Pair) → deep_pairs (entries_of hs) ((k, m) ∷ ms)
    ≡ (k, met m (value_at k hs)) ∷ deep_pairs (entries_of (without_key k hs)) ms)
    → deep_pairs (entries_of hs)
    (cond b ((k, unwrap_or (option_map (deep p.1) (cond b (Some l) (value_at p.0 ls))) p.1) ∷ ls)
    ((k, l) ∷ with_pair p.0 (unwrap_or (option_map (deep p.1) (cond b (Some l) (value_at p.0 ls))) p.1) ls))
    ≡ (k, met l (cond b (Some p.1) (value_at k hs)))
    ∷ deep_pairs (entries_of (cond b hs (p ∷ without_key k hs))) ls
first_of true k l p hs ls none whole before =
    before (deep p.1 l) ls
    ∙ ap (λ o. (k, met (deep p.1 l) o) ∷ deep_pairs (entries_of (without_key k hs)) ls) (none refl)
    ∙ ap (λ qs. (k, deep p.1 l) ∷ deep_pairs (entries_of qs) ls) (whole refl)
first_of false k l p hs ls none whole before =
    before l (with_pair p.0 (unwrap_or (option_map (deep p.1) (value_at p.0 ls)) p.1) ls)

laid_first : (hs : List Pair) (k l : Datum) (ls : List Pair) → IsTrue (are_distinct hs)
    → deep_pairs (entries_of hs) ((k, l) ∷ ls)
    ≡ (k, met l (value_at k hs)) ∷ deep_pairs (entries_of (without_key k hs)) ls
laid_first [] k l ls h = refl
laid_first (p ∷ hs) k l ls h =
    let lacking : same_key p.0 k ≡ true → IsTrue (lacks k hs) =
    λ e. subst (λ x. IsTrue (lacks x hs)) (one_key p.0 k e) (rest_lacks p hs h) in
    first_of (same_key p.0 k) k l p hs ls (λ e. no_value k hs (lacking e)) (λ e. none_out k hs (lacking e))
    (λ m ms. laid_first hs k m ms (rest_distinct p hs h))
    ∙ ap (λ b. (k, met l (cond b (Some p.1) (value_at k hs)))
    ∷ deep_pairs (entries_of (cond b hs (p ∷ without_key k hs))) ls) (either_way p.0 k)

-- ---- all of them

out_distinct : (k : Datum) (ps : List Pair) (o : Option ℕ) → place_of k ps ≡ o → IsTrue (are_distinct ps)
    → IsTrue (are_distinct (without_key k ps))
out_distinct k ps None at h = ap are_distinct (without_key-no_place k ps at) ∙ h
out_distinct k ps (Some n) at h = ap are_distinct (without_key-place k ps n at) ∙ are_distinct-without_place n ps h

alone : (hs : List Pair) → IsTrue (are_distinct hs) → deep_pairs (entries_of hs) [] ≡ hs
alone [] h = refl
alone (p ∷ hs) h =
    laid_first hs p.0 p.1 [] (rest_distinct p hs h)
    ∙ ap (λ o. (p.0, met p.1 o) ∷ deep_pairs (entries_of (without_key p.0 hs)) []) (no_value p.0 hs (rest_lacks p hs h))
    ∙ ap (λ qs. p ∷ deep_pairs (entries_of qs) []) (none_out p.0 hs (rest_lacks p hs h))
    ∙ ap (λ qs. p ∷ qs) (alone hs (rest_distinct p hs h))

pub laid_whole : (hs ls : List Pair) → IsTrue (are_distinct hs) → laid hs ls ≡ deep_pairs (entries_of hs) ls
laid_whole hs [] h = sym (alone hs h)
laid_whole hs (p ∷ ls) h =
    ap (λ qs. (p.0, met p.1 (value_at p.0 hs)) ∷ qs)
    (laid_whole (without_key p.0 hs) ls (out_distinct p.0 hs (place_of p.0 hs) refl h))
    ∙ sym (laid_first hs p.0 p.1 ls h)

-- ---- the keys stay distinct

by_place : (k v : Datum) (ps : List Pair) (o : Option ℕ) → place_of k ps ≡ o → IsTrue (is_key k)
    → IsTrue (are_distinct ps) → IsTrue (are_distinct (with_pair k v ps))
by_place k v ps None at key distinct =
    ap are_distinct (with_pair-no_place k v ps at) ∙ are_distinct-append k v ps key at distinct
by_place k v ps (Some n) at key distinct =
    ap are_distinct (with_pair-place k v ps n at) ∙ are_distinct-with_value v n ps ∙ distinct

pub pair_distinct : (k v : Datum) (ps : List Pair) → IsTrue (is_key k) → IsTrue (are_distinct ps)
    → IsTrue (are_distinct (with_pair k v ps))
pair_distinct k v ps = by_place k v ps (place_of k ps) refl

pub deep_distinct : (hs ls : List Pair) → IsTrue (are_distinct hs) → IsTrue (are_distinct ls)
    → IsTrue (are_distinct (deep_pairs (entries_of hs) ls))
deep_distinct [] ls h g = g
deep_distinct (p ∷ hs) ls h g =
    deep_distinct hs (with_pair p.0 (unwrap_or (option_map (deep p.1) (value_at p.0 ls)) p.1) ls) (rest_distinct p hs h)
    (pair_distinct p.0 (unwrap_or (option_map (deep p.1) (value_at p.0 ls)) p.1) ls (first_so (is_key p.0) _ h) g)

-- ---- sizes

size_of : (es : Entries) → pairs_size (pairs_of es) ≡ entries_size es
size_of no_entries = refl
size_of (entry k v es) = omega (arith, size_of es)

pub pairs_fall : (d : Datum) → pairs_size (pairs_in d) ≤ datum_size d
pairs_fall undef = omega arith
pairs_fall (flag b) = omega arith
pairs_fall (int z) = omega arith
pairs_fall (text t) = omega arith
pairs_fall (list ds) = omega arith
pairs_fall (hash es) = omega (arith, size_of es)
pairs_fall (reference r) = omega arith
pairs_fall (kind s) = omega arith
pairs_fall default = omega arith
