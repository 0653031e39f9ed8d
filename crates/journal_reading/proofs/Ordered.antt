-- Keys that rise: which of them are left, and what is put before them.
use Rattle.std.proofs.Common.{◌≡◌, ℕ, Bool, true, false, not, List, [], ◌∷◌, map, cond, bytes_eq, Ordering, Less, Equal, Greater, refl, ap, ◌∙◌}
use Rattle.std.proofs.lemmas.Cmp.{nat_list_cmp_total, tied_itself}
use Rattle.std.proofs.lemmas.Slice.Eq.{bytes_eq-Decides}
use Rattle.std.specs.Cmp.{first_so, second_so}
use Rattle.std.specs.Cmp.Derive.{both_true}
use Rattle.std.specs.FinMap.{put}
use Rattle.std.specs.Ordering.{is_lt}
use Rattle.std.specs.Prelude.{filter}
use Rattle.pp_values.specs.Rising.{text_cmp, precedes, is_rising}
use Rattle.site_bundle.specs.Given.{has_key, are_distinct}
use Rattle.site_bundle.specs.SiteView.{put_in}

pub less : (o : Ordering) → is_lt o ≡ true → o ≡ Less
less Less e = refl
less Equal e = cc
less Greater e = cc

abbrev pub keys : {X : Type 0} → List (List ℕ × X) → List (List ℕ)
keys ps = map (λ p. p.0) ps

precedes_later : (t u : List ℕ) (ts : List (List ℕ)) → is_lt (text_cmp t u) ≡ true → precedes u ts ≡ true →
    precedes t ts ≡ true
precedes_later t u [] below h = refl
precedes_later t u (v ∷ vs) below h = ap is_lt (nat_list_cmp_total.trans t u v (less _ below) (less _ h))

pub without_second : (t u : List ℕ) (ts : List (List ℕ)) → is_rising (t ∷ u ∷ ts) ≡ true → is_rising (t ∷ ts) ≡ true
without_second t u ts h =
    let below = first_so (is_lt (text_cmp t u)) _ h in
    let rest = second_so (is_lt (text_cmp t u)) _ h in
    both_true (precedes_later t u ts below (first_so (precedes u ts) _ rest)) (second_so (precedes u ts) _ rest)

-- ---- some of them

pub kept_behind : {X : Type 0} (is : List ℕ → Bool) (t : List ℕ) (ps : List (List ℕ × X)) →
    is_rising (t ∷ keys ps) ≡ true → is_rising (t ∷ keys (filter (λ p. is p.0) ps)) ≡ true
kept_behind is t [] h = h
kept_behind {X} is t (p ∷ ps) h =
    let rest = second_so (is_lt (text_cmp t p.0)) _ h in
    elim (is p.0) as (λ b. is_rising (t ∷ keys (cond b (p ∷ filter (λ q. is q.0) ps) (filter (λ q. is q.0) ps))) ≡ true) [
      | true ↦ both_true (first_so (is_lt (text_cmp t p.0)) _ h) (kept_behind is p.0 ps rest)
      | false ↦ kept_behind is t ps (without_second t p.0 (keys ps) h)
    ]

pub kept_rising : {X : Type 0} (is : List ℕ → Bool) (ps : List (List ℕ × X)) → is_rising (keys ps) ≡ true →
    is_rising (keys (filter (λ p. is p.0) ps)) ≡ true
kept_rising is [] h = refl
kept_rising is (p ∷ ps) h =
    elim (is p.0) as (λ b. is_rising (keys (cond b (p ∷ filter (λ q. is q.0) ps) (filter (λ q. is q.0) ps))) ≡ true) [
      | true ↦ kept_behind is p.0 ps h
      | false ↦ kept_rising is ps (second_so (precedes p.0 (keys ps)) _ h)
    ]

-- ---- put in, the last one first

put_front : {X : Type 0} (k : List ℕ) (v : X) (qs : List (List ℕ × X)) → is_rising (k ∷ keys qs) ≡ true →
    put text_cmp k v qs ≡ (k, v) ∷ qs
put_front k v [] h = refl
put_front k v (q ∷ qs) h = rw (less _ (first_so (is_lt (text_cmp k q.0)) _ h)) refl

pub put_in_rising : {X : Type 0} (ps : List (List ℕ × X)) → is_rising (keys ps) ≡ true → put_in [] ps ≡ ps
unfolding put_in
put_in_rising [] h = refl
put_in_rising (p ∷ ps) h =
    ap (put text_cmp p.0 p.1) (put_in_rising ps (second_so (precedes p.0 (keys ps)) _ h)) ∙ put_front p.0 p.1 ps h

-- ---- no two of them are the same

apart : (t u : List ℕ) → is_lt (text_cmp t u) ≡ true → bytes_eq t u ≡ false
apart t u below =
    elim (bytes_eq t u) as (λ r. bytes_eq t u ≡ r → r ≡ false) [
      | true ↦ λ e.
          let same : t ≡ u = (bytes_eq-Decides _ _).0 e in
          let tied : text_cmp t u ≡ Equal = ap (λ x. text_cmp x u) same ∙ tied_itself nat_list_cmp_total u in
          absurd (cc (tied, below))
      | false ↦ λ e. refl
    ] refl

absent : {X : Type 0} (k : List ℕ) (ps : List (List ℕ × X)) → is_rising (k ∷ keys ps) ≡ true → has_key k ps ≡ false
absent k [] h = refl
absent k (p ∷ ps) h =
    rw (apart k p.0 (first_so (is_lt (text_cmp k p.0)) _ h)) (absent k ps (without_second k p.0 (keys ps) h))

pub distinct_rising : {X : Type 0} (ps : List (List ℕ × X)) → is_rising (keys ps) ≡ true → are_distinct ps ≡ true
distinct_rising [] h = refl
distinct_rising (p ∷ ps) h =
    both_true (ap not (absent p.0 ps h)) (distinct_rising ps (second_so (precedes p.0 (keys ps)) _ h))
