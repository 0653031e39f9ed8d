-- Attributes whose names rise.
use Rattle.std.proofs.Common.{◌≡◌, ◌⊎◌, ℕ, Bool, true, false, ◌&&◌, not, cond, List, [], ◌∷◌, ◌++◌, map, filter, find, Option, None, Some, inl, inr, refl, sym, ap, ◌∙◌}
use Rattle.std.proofs.lemmas.List.{map-append}
use Rattle.std.proofs.lemmas.List.Elements.{filter-append}
use Rattle.std.specs.List.{list_all}
use Rattle.std.specs.Ordering.{is_lt}
use Rattle.override_rules.proofs.Among.{rising_all}
use Rattle.pp_values.specs.Plain.{is_plain_value}
use Rattle.pp_values.specs.Rising.{text_cmp, precedes, is_rising}
use Rattle.pp_values.specs.Settings.{Setting, setting_names}
use Rattle.res_core.specs.AttributeViews.{setting, settings}
use Rattle.res_core.specs.PlainAttributes.{are_plain}
use Rattle.res_core.specs.declared.attribute.Attribute.{Attribute}
use Rattle.catalog_finish.proofs.PlainLemmas.{plain_of-plain, plain_stays}
use Rattle.catalog_finish.specs.Attributes.{has_value, is_kept, plain_setting, in_catalog, stays}

both : (a b : Bool) → (a && b) ≡ true → (a ≡ true) × (b ≡ true)
both true true e = (refl, refl)
both true false e = absurd cc
both false b e = absurd cc

together : (a b : Bool) → a ≡ true → b ≡ true → (a && b) ≡ true
together true b p q = q
together false b p q = absurd cc

bool_cases : (b : Bool) → (b ≡ true) ⊎ (b ≡ false)
bool_cases true = inl refl
bool_cases false = inr refl

not_both : {A : Type 0} (o : Option A) (x : A) → o ≡ None → o ≡ Some x → ⊥
not_both o x e f = absurd cc

-- ---- what is left of a list rises as the list does

above_filtered : (test : Setting → Bool) (t : List ℕ) (ss : List Setting) →
    list_all (λ v. is_lt (text_cmp t v)) (setting_names ss) ≡ true →
    precedes t (setting_names (filter test ss)) ≡ true
above_filtered test t [] e = refl
above_filtered test t (s ∷ ss) e =
    let parts = both (is_lt (text_cmp t s.0)) (list_all (λ v. is_lt (text_cmp t v)) (setting_names ss)) e in
    elim (test s) as (λ b. precedes t (setting_names (cond b (s ∷ filter test ss) (filter test ss))) ≡ true)
    [ true ↦ parts.0 | false ↦ above_filtered test t ss parts.1 ]

pub filtered_rising : (test : Setting → Bool) (ss : List Setting) → is_rising (setting_names ss) ≡ true →
    is_rising (setting_names (filter test ss)) ≡ true
filtered_rising test [] e = refl
filtered_rising test (s ∷ ss) e =
    let parts = both (precedes s.0 (setting_names ss)) (is_rising (setting_names ss)) e in
    let rest = filtered_rising test ss parts.1 in
    let first = above_filtered test s.0 ss (rising_all s.0 (setting_names ss) e) in
    elim (test s) as (λ b. is_rising (setting_names (cond b (s ∷ filter test ss) (filter test ss))) ≡ true) [
      | true ↦ together (precedes s.0 (setting_names (filter test ss))) (is_rising (setting_names (filter test ss))) first
          rest
      | false ↦ rest
    ]

plain_names : (ss : List Setting) → setting_names (map plain_setting ss) ≡ setting_names ss
plain_names [] = refl
plain_names (s ∷ ss) = ap (λ ts. s.0 ∷ ts) (plain_names ss)

pub catalog_rising : (ss : List Setting) → is_rising (setting_names ss) ≡ true →
    is_rising (setting_names (in_catalog ss)) ≡ true
catalog_rising ss e = ap is_rising (plain_names (filter is_kept ss)) ∙ filtered_rising is_kept ss e

pub bound_rising : (ss : List Setting) → is_rising (setting_names ss) ≡ true →
    is_rising (setting_names (in_catalog (filter has_value ss))) ≡ true
bound_rising ss e = catalog_rising (filter has_value ss) (filtered_rising has_value ss e)

-- ---- one attribute after another

pub catalog_cons : (s : Setting) (ss : List Setting) → in_catalog (s ∷ ss) ≡ in_catalog (s ∷ []) ++ in_catalog ss
catalog_cons s ss =
    ap (map plain_setting) (filter-append is_kept (s ∷ []) ss)
    ∙ map-append plain_setting (filter is_kept (s ∷ [])) (filter is_kept ss)

catalog_append : (ss ts : List Setting) → in_catalog (ss ++ ts) ≡ in_catalog ss ++ in_catalog ts
catalog_append ss ts =
    ap (map plain_setting) (filter-append is_kept ss ts) ∙ map-append plain_setting (filter is_kept ss) (filter is_kept ts)

pub bound_cons : (s : Setting) (ss : List Setting) →
    in_catalog (filter has_value (s ∷ ss)) ≡ in_catalog (filter has_value (s ∷ [])) ++ in_catalog (filter has_value ss)
bound_cons s ss =
    ap in_catalog (filter-append has_value (s ∷ []) ss)
    ∙ catalog_append (filter has_value (s ∷ [])) (filter has_value ss)

-- ---- plain ones

all_plain : (ss : List Setting) → are_plain (map plain_setting ss) ≡ true
all_plain [] = refl
all_plain (s ∷ ss) =
    together (is_plain_value (plain_setting s).1) (are_plain (map plain_setting ss)) (plain_of-plain s.1) (all_plain ss)

pub catalog_plain : (ss : List Setting) → are_plain (in_catalog ss) ≡ true
catalog_plain ss = all_plain (filter is_kept ss)

pub none_found_plain : (ss : List Setting) → find (λ a. not (is_plain_value a.1)) ss ≡ None → are_plain ss ≡ true
none_found_plain [] e = refl
none_found_plain (s ∷ ss) e = elim (bool_cases (is_plain_value s.1)) [
  | inl plain ↦
      together (is_plain_value s.1) (are_plain ss) plain (none_found_plain ss
      (sym (ap (λ b. cond (not b) (Some s) (find (λ a. not (is_plain_value a.1)) ss)) plain) ∙ e))
  | inr other ↦
      absurd (not_both (find (λ a. not (is_plain_value a.1)) (s ∷ ss)) s e
      (ap (λ b. cond (not b) (Some s) (find (λ a. not (is_plain_value a.1)) ss)) other))
]

-- ---- of the attributes themselves

pub kept_filtered : (test : Setting → Bool) (rest : List Attribute) →
    settings (filter (λ a. test (setting a)) rest) ≡ filter test (settings rest)
kept_filtered test [] = refl
kept_filtered test (a ∷ rest) =
    elim (test (setting a)) as (λ b. settings (cond b (a ∷ filter (λ x. test (setting x)) rest)
    (filter (λ x. test (setting x)) rest)) ≡ cond b (setting a ∷ filter test (settings rest)) (filter test (settings rest)))
    [ true ↦ ap (λ xs. setting a ∷ xs) (kept_filtered test rest) | false ↦ kept_filtered test rest ]

-- settings that a catalog has as they are
pub all_stay : (ss : List Setting) → list_all stays ss ≡ true → in_catalog ss ≡ ss
all_stay [] e = refl
all_stay (s ∷ ss) e =
    let parts = both (stays s) (list_all stays ss) e in
    let first = both (is_kept s) (is_plain_value s.1) parts.0 in
    ap (λ b. map plain_setting (cond b (s ∷ filter is_kept ss) (filter is_kept ss))) first.0
    ∙ ap (λ d. (s.0, d) ∷ in_catalog ss) (plain_stays s.1 first.1)
    ∙ ap (λ ts. s ∷ ts) (all_stay ss parts.1)
