-- Where a text is put among others, and what they hold then.
use Rattle.std.proofs.Common.{◌≡◌, ℕ, ◌+◌, ◌≤◌, List, [], ◌∷◌, length, refl, ap, subst, sym, ◌∙◌, arith}
use Rattle.std.specs.Prelude.{Result, Ok, Err}
use Rattle.std.specs.declared.cmp.Ordering.{Ordering}
use Rattle.std.specs.declared.cmp.Ordering.TheVariants.{Less, Equal, Greater}
use Rattle.std.specs.Ordering.{match_ordering}
use Rattle.std.specs.BTreeSet.{insert_key}
use Rattle.std.specs.List.{insert}
use Rattle.pp_values.specs.Rising.{text_cmp}
use Rattle.res_core.specs.TagPlaces.{one_on, place_in}

-- ---- the turns

-- a place so many further on
abbrev pub further_on : ℕ → Result ℕ ℕ → Result ℕ ℕ
further_on n (Ok place) = Ok (n + place)
further_on n (Err place) = Err (n + place)

further_one : (n : ℕ) (r : Result ℕ ℕ) → further_on n (one_on r) ≡ further_on (n + 1) r
further_one n (Ok place) = ap Ok (omega arith)
further_one n (Err place) = ap Err (omega arith)

pub further_none : (r : Result ℕ ℕ) → r ≡ further_on 0 r
further_none (Ok place) = ap Ok (omega arith)
further_none (Err place) = ap Err (omega arith)

module _ (n : ℕ) (text : List ℕ) where
  pub at_end : (ts : List (List ℕ)) → length ts ≡ 0 → further_on n (place_in text ts) ≡ Err n
  unfolding place_in
  at_end [] none = ap Err (omega arith)
  at_end (t ∷ ts) none = absurd (omega (arith, none))

  module _ (t : List ℕ) (ts : List (List ℕ)) where
    by : (o : Ordering) → text_cmp text t ≡ o →
        place_in text (t ∷ ts) ≡ match_ordering o (Err 0) (Ok 0) (one_on (place_in text ts))
    unfolding place_in
    by o h = ap (λ o. match_ordering o (Err 0) (Ok 0) (one_on (place_in text ts))) h

    pub at_less : text_cmp text t ≡ Less → further_on n (place_in text (t ∷ ts)) ≡ Err n
    at_less h = ap (further_on n) (by Less h) ∙ ap Err (omega arith)

    pub at_equal : text_cmp text t ≡ Equal → further_on n (place_in text (t ∷ ts)) ≡ Ok n
    at_equal h = ap (further_on n) (by Equal h) ∙ ap Ok (omega arith)

    pub at_greater : text_cmp text t ≡ Greater →
        further_on n (place_in text (t ∷ ts)) ≡ further_on (n + 1) (place_in text ts)
    at_greater h = ap (further_on n) (by Greater h) ∙ further_one n (place_in text ts)

-- ---- what is put there

-- what is made by putting a text at a place, unless it is there
abbrev pub PutAt : Result ℕ ℕ → List (List ℕ) → List ℕ → List (List ℕ) → Type 0
PutAt (Ok place) ts t made = ts ≡ made
PutAt (Err place) ts t made = (place ≤ length ts) × (insert ts place t ≡ made)

put_further : (r : Result ℕ ℕ) (first t : List ℕ) (ts made : List (List ℕ)) → PutAt r ts t made →
    PutAt (one_on r) (first ∷ ts) t (first ∷ made)
put_further (Ok place) first t ts made h = ap (λ l. first ∷ l) h
put_further (Err place) first t ts made h = (omega (arith, h.0), ap (λ l. first ∷ l) h.1)

put_by : (text t : List ℕ) (ts : List (List ℕ)) → PutAt (place_in text ts) ts text (insert_key text_cmp ts text) →
    (o : Ordering) →
    PutAt (match_ordering o (Err 0) (Ok 0) (one_on (place_in text ts))) (t ∷ ts) text
    (match_ordering o (text ∷ t ∷ ts) (t ∷ ts) (t ∷ insert_key text_cmp ts text))
put_by text t ts rest Less = (omega arith, refl)
put_by text t ts rest Equal = refl
put_by text t ts rest Greater = put_further (place_in text ts) t text ts (insert_key text_cmp ts text) rest

placed : (text : List ℕ) (ts : List (List ℕ)) → PutAt (place_in text ts) ts text (insert_key text_cmp ts text)
unfolding place_in
placed text [] = (omega arith, refl)
placed text (t ∷ ts) = put_by text t ts (placed text ts) (text_cmp text t)

-- what was found decides
module _ (text : List ℕ) (ts : List (List ℕ)) (place : ℕ) where
  found : (r : Result ℕ ℕ) → r ≡ place_in text ts → PutAt r ts text (insert_key text_cmp ts text)
  found r h = subst (λ r. PutAt r ts text (insert_key text_cmp ts text)) (sym h) (placed text ts)

  pub there : Ok place ≡ place_in text ts → ts ≡ insert_key text_cmp ts text
  there h = found (Ok place) h

  pub put_between : Err place ≡ place_in text ts → insert ts place text ≡ insert_key text_cmp ts text
  put_between h = (found (Err place) h).1

  pub between_within : Err place ≡ place_in text ts → place ≤ length ts
  between_within h = (found (Err place) h).0
