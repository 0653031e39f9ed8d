-- Where an attribute is put among others.
use Rattle.std.proofs.Common.{◌≡◌, ℕ, zero, suc, ◌+◌, ◌<◌, ◌≤◌, List, [], ◌∷◌, length, refl, ap, subst, sym, ◌∙◌, arith}
use Rattle.std.proofs.lemmas.List.{length-map}
use Rattle.std.specs.Prelude.{Result, Ok, Err}
use Rattle.std.specs.declared.cmp.Ordering.{Ordering}
use Rattle.std.specs.declared.cmp.Ordering.TheVariants.{Less, Equal, Greater}
use Rattle.std.specs.Ordering.{match_ordering, is_eq}
use Rattle.std.specs.BTreeMap.{insert_entry}
use Rattle.std.specs.List.{insert, slice_set}
use Rattle.std.specs.Cmp.Lexicographic.{bytes_decides}
use Rattle.std.proofs.lemmas.Map.Text.{is_eq-slice_cmp}
use Rattle.pp_values.specs.Datum as d
use Rattle.pp_values.specs.Datum.{Datum}
use Rattle.pp_values.specs.Rising.{text_cmp}
use Rattle.pp_values.specs.Settings.{Setting}
use Rattle.eval_classes.specs.AttributeSets.{one_on, place_in}
use Rattle.res_core.specs.AttributeViews.{setting, settings}
use Rattle.res_core.specs.declared.attribute.Attribute.{Attribute}

-- ---- the turns

-- a place so many further on
abbrev pub further_on : ℕ → Result ℕ ℕ → Result ℕ ℕ
further_on n (Ok place) = Ok (n + place)
further_on n (Err place) = Err (n + place)

further_one : (n : ℕ) (r : Result ℕ ℕ) → further_on n (one_on r) ≡ further_on (n + 1) r
further_one n (Ok place) = ap Ok (omega arith)
further_one n (Err place) = ap Err (omega arith)

pub further_none : (r : Result ℕ ℕ) → r ≡ further_on 0 r
further_none (Ok place) = ap Ok (omega arith)
further_none (Err place) = ap Err (omega arith)

module _ (n : ℕ) (name : List ℕ) where
  pub at_end : (xs : List Attribute) → length xs ≡ 0 → further_on n (place_in name (settings xs)) ≡ Err n
  unfolding place_in
  at_end [] none = ap Err (omega arith)
  at_end (x ∷ xs) none = absurd (omega (arith, none))

  module _ (s : Setting) (ss : List Setting) where
    by : (o : Ordering) → text_cmp name s.0 ≡ o →
        place_in name (s ∷ ss) ≡ match_ordering o (Err 0) (Ok 0) (one_on (place_in name ss))
    unfolding place_in
    by o h = ap (λ o. match_ordering o (Err 0) (Ok 0) (one_on (place_in name ss))) h

    pub at_less : text_cmp name s.0 ≡ Less → further_on n (place_in name (s ∷ ss)) ≡ Err n
    at_less h = ap (further_on n) (by Less h) ∙ ap Err (omega arith)

    pub at_equal : text_cmp name s.0 ≡ Equal → further_on n (place_in name (s ∷ ss)) ≡ Ok n
    at_equal h = ap (further_on n) (by Equal h) ∙ ap Ok (omega arith)

    pub at_greater : text_cmp name s.0 ≡ Greater →
        further_on n (place_in name (s ∷ ss)) ≡ further_on (n + 1) (place_in name ss)
    at_greater h = ap (further_on n) (by Greater h) ∙ further_one n (place_in name ss)

-- ---- what is put there

-- the same name is the same text
same_text : (a b : List ℕ) → text_cmp a b ≡ Equal → a ≡ b
same_text a b h = (bytes_decides a b).0 (sym (is_eq-slice_cmp a b) ∙ ap is_eq h)

-- what is made by putting a setting at a place
abbrev pub PutAt : Result ℕ ℕ → List Setting → Setting → List Setting → Type 0
PutAt (Ok place) ss s made = (place < length ss) × (slice_set ss place s ≡ made)
PutAt (Err place) ss s made = (place ≤ length ss) × (insert ss place s ≡ made)

put_further : (r : Result ℕ ℕ) (first s : Setting) (ss made : List Setting) → PutAt r ss s made →
    PutAt (one_on r) (first ∷ ss) s (first ∷ made)
put_further (Ok place) first s ss made h = (omega (arith, h.0), ap (λ l. first ∷ l) h.1)
put_further (Err place) first s ss made h = (omega (arith, h.0), ap (λ l. first ∷ l) h.1)

put_by : (name : List ℕ) (d : Datum) (s : Setting) (ss : List Setting) →
    PutAt (place_in name ss) ss (name, d) (insert_entry text_cmp ss name d) →
    (o : Ordering) → text_cmp name s.0 ≡ o →
    PutAt (match_ordering o (Err 0) (Ok 0) (one_on (place_in name ss))) (s ∷ ss) (name, d)
    (match_ordering o ((name, d) ∷ s ∷ ss) ((s.0, d) ∷ ss) (s ∷ insert_entry text_cmp ss name d))
put_by name d s ss rest Less h = (omega arith, refl)
put_by name d s ss rest Equal h = (omega arith, ap (λ n. (n, d) ∷ ss) (same_text name s.0 h))
put_by name d s ss rest Greater h = put_further (place_in name ss) s (name, d) ss (insert_entry text_cmp ss name d) rest

placed : (name : List ℕ) (d : Datum) (ss : List Setting) →
    PutAt (place_in name ss) ss (name, d) (insert_entry text_cmp ss name d)
unfolding place_in
placed name d [] = (omega arith, refl)
placed name d (s ∷ ss) = put_by name d s ss (placed name d ss) (text_cmp name s.0) refl

-- what was found decides
module _ (name : List ℕ) (d : Datum) (ss : List Setting) (place : ℕ) where
  found : (r : Result ℕ ℕ) → r ≡ place_in name ss → PutAt r ss (name, d) (insert_entry text_cmp ss name d)
  found r h = subst (λ r. PutAt r ss (name, d) (insert_entry text_cmp ss name d)) (sym h) (placed name d ss)

  pub set_there : Ok place ≡ place_in name ss → slice_set ss place (name, d) ≡ insert_entry text_cmp ss name d
  set_there h = (found (Ok place) h).1

  pub put_between : Err place ≡ place_in name ss → insert ss place (name, d) ≡ insert_entry text_cmp ss name d
  put_between h = (found (Err place) h).1

-- .. and within the list
module _ (name : List ℕ) (xs : List Attribute) (place : ℕ) where
  pub there_within : Ok place ≡ place_in name (settings xs) → place < length xs
  there_within h = let p = (found name d.undef (settings xs) place (Ok place) h).0 in omega (arith, p, length-map xs setting)

  pub between_within : Err place ≡ place_in name (settings xs) → place ≤ length xs
  between_within h = let p = (found name d.undef (settings xs) place (Err place) h).0 in omega (arith, p, length-map xs setting)

-- ---- what a change of attributes says

pub settings_set : (xs : List Attribute) (place : ℕ) (a : Attribute) →
    settings (slice_set xs place a) ≡ slice_set (settings xs) place (setting a)
settings_set [] place a = refl
settings_set (x ∷ xs) zero a = refl
settings_set (x ∷ xs) (suc place) a = ap (λ ss. setting x ∷ ss) (settings_set xs place a)

pub settings_insert : (xs : List Attribute) (place : ℕ) (a : Attribute) →
    settings (insert xs place a) ≡ insert (settings xs) place (setting a)
settings_insert [] zero a = refl
settings_insert [] (suc place) a = refl
settings_insert (x ∷ xs) zero a = refl
settings_insert (x ∷ xs) (suc place) a = ap (λ ss. setting x ∷ ss) (settings_insert xs place a)
