-- Values in which nothing is interpolated.
use Rattle.std.proofs.Common.{◌≡◌, ℕ, Bool, true, false, not, ◌&&◌, cond, List, [], ◌∷◌, ◌++◌, Some, Ok, is_some, codes, refl, sym, ap, ◌∙◌, append_assoc, append-nil}
use Rattle.pp_values.specs.Datum.{Datum, undef, flag, int, text, list, hash, reference, kind, default, Data, no_data, datum, Entries, no_entries, entry, Pair, entries_of, pairs_of}
use Rattle.pp_values.specs.Keys.{is_key, same_key, lacks, are_distinct, with_pair}
use Rattle.hiera_config.specs.Cuts.{cut_at}
use Rattle.hiera_config.specs.Meant.{go_on}
use Rattle.hiera_config.proofs.Booleans.{both_left, both_right}
use Rattle.hiera_lookup.specs.Asks.{asks, list_asks, pair_asks}
use Rattle.hiera_lookup.specs.Filled.{Gives, answer_to, as_key, filled, list_filled, pairs_filled}
use Rattle.hiera_config.specs.Literals.{is_literal, are_literal, are_literal_pairs}
use Rattle.hiera_lookup.specs.Look.{Looks, answers, interpolated}
use Rattle.hiera_lookup.specs.World.{World}
use Rattle.hiera_lookup.proofs.PlainTexts.{plain_asks, plain_filled}

not_so : (b : Bool) → not b ≡ true → b ≡ false
not_so true is = absurd (cc is)
not_so false is = refl

-- ---- they ask for nothing

none_of_both : {A : Type 0} (xs ys : List A) → xs ≡ [] → ys ≡ [] → xs ++ ys ≡ []
none_of_both xs ys first second = ap (λ zs. zs ++ ys) first ∙ second

mutual
  asks_none : (d : Datum) → is_literal d ≡ true → asks d ≡ []
  asks_none undef is = refl
  asks_none (flag b) is = refl
  asks_none (int z) is = refl
  asks_none (text t) is = plain_asks t (not_so (is_some (cut_at (codes "%{") t)) is)
  asks_none (list ds) is = list_asks_none ds is
  asks_none (hash es) is = pair_asks_none es (both_left (are_literal_pairs es) (are_distinct (pairs_of es)) is)
  asks_none (reference r) is = refl
  asks_none (kind s) is = refl
  asks_none default is = refl

  list_asks_none : (ds : Data) → are_literal ds ≡ true → list_asks ds ≡ []
  list_asks_none no_data is = refl
  list_asks_none (datum d ds) is =
      none_of_both (asks d) (list_asks ds) (asks_none d (both_left (is_literal d) (are_literal ds) is))
      (list_asks_none ds (both_right (is_literal d) (are_literal ds) is))

  pair_asks_none : (es : Entries) → are_literal_pairs es ≡ true → pair_asks es ≡ []
  pair_asks_none no_entries is = refl
  pair_asks_none (entry k v es) is =
      let rest : (is_literal v && are_literal_pairs es) ≡ true =
      both_right (is_literal k) (is_literal v && are_literal_pairs es) is in
      none_of_both (asks k) (asks v ++ pair_asks es)
      (asks_none k (both_left (is_literal k) (is_literal v && are_literal_pairs es) is))
      (none_of_both (asks v) (pair_asks es) (asks_none v (both_left (is_literal v) (are_literal_pairs es) rest))
      (pair_asks_none es (both_right (is_literal v) (are_literal_pairs es) rest)))

-- ---- a pair whose key is new stands behind the others

other_key : (j k v : Datum) (out ps : List Pair) → lacks j (out ++ (k, v) ∷ ps) ≡ true → same_key k j ≡ false
other_key j k v [] ps is = not_so (same_key k j) (both_left (not (same_key k j)) (lacks j ps) is)
other_key j k v (p ∷ out) ps is =
    other_key j k v out ps (both_right (not (same_key p.0 j)) (lacks j (out ++ (k, v) ∷ ps)) is)

rest_distinct : (p : Pair) (ps : List Pair) → are_distinct (p ∷ ps) ≡ true → are_distinct ps ≡ true
rest_distinct p ps is =
    both_right (lacks p.0 ps) (are_distinct ps) (both_right (is_key p.0) (lacks p.0 ps && are_distinct ps) is)

is_new_key : (k v : Datum) (out ps : List Pair) → are_distinct (out ++ (k, v) ∷ ps) ≡ true → is_key k ≡ true
is_new_key k v [] ps is = both_left (is_key k) (lacks k ps && are_distinct ps) is
is_new_key k v (p ∷ out) ps is = is_new_key k v out ps (rest_distinct p (out ++ (k, v) ∷ ps) is)

new_behind : (k v : Datum) (out ps : List Pair) → are_distinct (out ++ (k, v) ∷ ps) ≡ true
    → with_pair k v out ≡ out ++ (k, v) ∷ []
new_behind k v [] ps is = refl
new_behind k v (p ∷ out) ps is =
    let all = out ++ (k, v) ∷ ps in
    let other : same_key k p.0 ≡ false =
    other_key p.0 k v out ps
    (both_left (lacks p.0 all) (are_distinct all) (both_right (is_key p.0) (lacks p.0 all && are_distinct all) is)) in
    ap (λ b. cond b ((p.0, v) ∷ out) (p ∷ with_pair k v out)) other
    ∙ ap (λ (qs : List Pair). p ∷ qs) (new_behind k v out ps (rest_distinct p all is))

same_as_key : (d : Datum) → is_key d ≡ true → as_key d ≡ d
same_as_key undef is = absurd (cc is)
same_as_key (flag b) is = absurd (cc is)
same_as_key (int z) is = refl
same_as_key (text t) is = refl
same_as_key (list ds) is = absurd (cc is)
same_as_key (hash es) is = absurd (cc is)
same_as_key (reference r) is = absurd (cc is)
same_as_key (kind s) is = absurd (cc is)
same_as_key default is = absurd (cc is)

whole_entries : (es : Entries) → entries_of (pairs_of es) ≡ es
whole_entries no_entries = refl
whole_entries (entry k v es) = ap (entry k v) (whole_entries es)

-- ---- they stand for themselves

module _ (reads looks : Gives) where
  mutual
    stays : (d : Datum) → is_literal d ≡ true → filled reads looks d ≡ d
    stays undef is = refl
    stays (flag b) is = refl
    stays (int z) is = refl
    stays (text t) is = plain_filled reads looks t (not_so (is_some (cut_at (codes "%{") t)) is)
    stays (list ds) is = ap list (list_stays ds is)
    stays (hash es) is =
        ap (λ ps. hash (entries_of ps))
        (pairs_stay es [] (both_left (are_literal_pairs es) (are_distinct (pairs_of es)) is)
        (both_right (are_literal_pairs es) (are_distinct (pairs_of es)) is))
        ∙ ap hash (whole_entries es)
    stays (reference r) is = refl
    stays (kind s) is = refl
    stays default is = refl

    list_stays : (ds : Data) → are_literal ds ≡ true → list_filled reads looks ds ≡ ds
    list_stays no_data is = refl
    list_stays (datum d ds) is =
        ap (λ x. datum x (list_filled reads looks ds)) (stays d (both_left (is_literal d) (are_literal ds) is))
        ∙ ap (datum d) (list_stays ds (both_right (is_literal d) (are_literal ds) is))

    pairs_stay : (es : Entries) (out : List Pair) → are_literal_pairs es ≡ true
        → are_distinct (out ++ pairs_of es) ≡ true → pairs_filled reads looks es out ≡ out ++ pairs_of es
    pairs_stay no_entries out is distinct = sym (append-nil out)
    pairs_stay (entry k v es) out is distinct =
        let rest : (is_literal v && are_literal_pairs es) ≡ true =
        both_right (is_literal k) (is_literal v && are_literal_pairs es) is in
        let key : as_key (filled reads looks k) ≡ k =
        ap as_key (stays k (both_left (is_literal k) (is_literal v && are_literal_pairs es) is))
        ∙ same_as_key k (is_new_key k v out (pairs_of es) distinct) in
        let value : filled reads looks v ≡ v = stays v (both_left (is_literal v) (are_literal_pairs es) rest) in
        let put : with_pair (as_key (filled reads looks k)) (filled reads looks v) out ≡ out ++ (k, v) ∷ [] =
        ap (λ x. with_pair x (filled reads looks v) out) key ∙ ap (λ x. with_pair k x out) value
        ∙ new_behind k v out (pairs_of es) distinct in
        let whole : (out ++ (k, v) ∷ []) ++ pairs_of es ≡ out ++ (k, v) ∷ pairs_of es =
        append_assoc out ((k, v) ∷ []) (pairs_of es) in
        ap (pairs_filled reads looks es) put
        ∙ pairs_stay es (out ++ (k, v) ∷ []) (both_right (is_literal v) (are_literal_pairs es) rest)
        (ap are_distinct whole ∙ distinct)
        ∙ whole

-- ---- so nothing is looked up for them

pub literal_whole : (w : World) (look : Looks) (busy : List (List ℕ)) (d : Datum) → is_literal d ≡ true
    → interpolated w look busy (Some d) ≡ Ok (Some d, [])
unfolding interpolated answers go_on
literal_whole w look busy d is =
    ap (λ xs. go_on (answers look busy [] xs) (λ table. Ok (Some (filled w.reads (answer_to table) d), table)))
    (asks_none d is)
    ∙ ap (λ x. Ok (Some x, [])) (stays w.reads (answer_to []) d is)
