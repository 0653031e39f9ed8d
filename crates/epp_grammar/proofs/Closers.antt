-- Where a tag ends.
use Rattle.std.proofs.Common.{◌≡◌, ◌⊎◌, ℕ, ◌+◌, suc, ◌==◌, Bool, true, false, if◌then◌else◌, List, [], ◌∷◌, ◌++◌}
use Rattle.std.proofs.Common.{length, drop, append_assoc, Option, None, Some, inl, inr, refl, sym, ap, ◌∙◌, arith}
use Rattle.std.proofs.lemmas.Bool.{cases_Bool, eqb-true}
use Rattle.epp_text.specs.Pieces.{closes, close_from}
use Rattle.epp_grammar.specs.Texts.{HoldsCloser}
use Rattle.epp_grammar.proofs.Bytes.{both, clash, closes_shape, if_false, if_true, not_nothing, not_true}

pub none_in_nothing : HoldsCloser [] → ⊥
none_in_nothing h = not_nothing h.0 37 (62 ∷ h.1) h.2

pub holds_more : (b : ℕ) (z : List ℕ) → HoldsCloser z → HoldsCloser (b ∷ z)
holds_more b z h = (b ∷ h.0, h.1, ap (λ t. b ∷ t) h.2)

pub holds-append : (z more : List ℕ) → HoldsCloser z → HoldsCloser (z ++ more)
holds-append z more h =
    (h.0, h.1 ++ more, ap (λ t. t ++ more) h.2 ∙ append_assoc h.0 (37 ∷ 62 ∷ h.1) more)

-- one byte more: it stands at the front, or further on
at_front : (b : ℕ) (z before after : List ℕ) → b ∷ z ≡ before ++ 37 ∷ 62 ∷ after
    → ((b ≡ 37) × (z ≡ 62 ∷ after)) ⊎ HoldsCloser z
at_front b z [] after e = inl (cc, cc)
at_front b z (c ∷ before) after e = inr (before, after, cc)

-- a `-` at the end is no part of one
pub before_dash : (text before after : List ℕ) → text ++ 45 ∷ [] ≡ before ++ 37 ∷ 62 ∷ after → HoldsCloser text
before_dash [] before after e = elim (at_front 45 [] before after e) [
  | inl here ↦ let q : ◌≡◌ {A = ℕ} 45 37 = here.0 in absurd (omega (arith, q))
  | inr more ↦ absurd (none_in_nothing more)
]
before_dash (t ∷ ts) before after e = elim (at_front t (ts ++ 45 ∷ []) before after e) [
  | inl here ↦ by_next ts here.1 here.0
  | inr more ↦ holds_more t ts (before_dash ts more.0 more.1 more.2)
] where
  by_next : (ts : List ℕ) → ts ++ 45 ∷ [] ≡ 62 ∷ after → t ≡ 37 → HoldsCloser (t ∷ ts)
  by_next [] h is = let q : ◌≡◌ {A = ℕ} 45 62 = cc in absurd (omega (arith, q))
  by_next (u ∷ us) h is = let q : u ≡ 62 = cc in ([], us, λ i. is i ∷ q i ∷ us)

-- ---- the first one

no_close : (b : ℕ) (text w : List ℕ) → (HoldsCloser (b ∷ text) → ⊥) → closes (b ∷ (text ++ 37 ∷ w)) ≡ false
no_close b [] w none = not_true (closes (b ∷ 37 ∷ w)) (λ t. let q = both (b == 37) (37 == 62) t in
    let r : false ≡ true = q.1 in cc)
no_close b (c ∷ text) w none = not_true (closes (b ∷ c ∷ (text ++ 37 ∷ w))) (λ t.
    let q = both (b == 37) (c == 62) t in
    none ([], text, λ i. eqb-true b 37 q.0 i ∷ eqb-true c 62 q.1 i ∷ text))

-- the first `%>` stands behind a text that has none
pub close_at : (at : ℕ) (text rest : List ℕ) → (HoldsCloser text → ⊥)
    → close_from at (text ++ 37 ∷ 62 ∷ rest) ≡ Some (at + length text)
close_at at [] rest none = let e : at ≡ at + 0 = omega arith in ap Some e
close_at at (b ∷ text) rest none =
    let w : List ℕ = text ++ 37 ∷ 62 ∷ rest in
    let e : at + 1 + length text ≡ at + suc (length text) = omega arith in
    if_false (closes (b ∷ w)) (Some at) (close_from (at + 1) w) (no_close b text (62 ∷ rest) none)
    ∙ (close_at (at + 1) text rest (λ h. none (holds_more b text h)) ∙ ap Some e)

pub record IsClosed (at end : ℕ) (z : List ℕ) : Type 0 where
  pub text : List ℕ
  pub rest : List ℕ
  pub is : z ≡ text ++ 37 ∷ 62 ∷ rest
  pub place : end ≡ at + length text
  pub none : HoldsCloser text → ⊥

pub close_some : (at end : ℕ) (z : List ℕ) → close_from at z ≡ Some end → IsClosed at end z
close_some at end [] e = absurd cc
close_some at end (b ∷ z) e = elim (cases_Bool (closes (b ∷ z))) [
  | inl so ↦
      let here : Some at ≡ Some end =
      sym (if_true (closes (b ∷ z)) (Some at) (close_from (at + 1) z) so) ∙ e in
      let same : at ≡ end = cc in
      record {
        text = [];
        rest = drop 2 (b ∷ z);
        is = closes_shape (b ∷ z) so;
        place = omega (arith, same);
        none = none_in_nothing;
      }
  | inr isnt ↦
      let r = close_some (at + 1) end z (sym (if_false (closes (b ∷ z)) (Some at) (close_from (at + 1) z) isnt) ∙ e) in
      record {
        text = b ∷ r.text;
        rest = r.rest;
        is = ap (λ t. b ∷ t) r.is;
        place = (let p = r.place in omega (arith, p));
        none = λ h. elim (at_front b r.text h.0 h.1 h.2) [
          | inl here ↦ clash (closes (b ∷ z))
              (λ i. closes ((here.0 i) ∷ (r.is ∙ ap (λ t. t ++ 37 ∷ 62 ∷ r.rest) here.1) i)) isnt
          | inr more ↦ r.none more
        ];
      }
]

pub close_none : (at : ℕ) (z : List ℕ) → (HoldsCloser z → ⊥) → close_from at z ≡ None
close_none at z none = by (close_from at z) refl where
  by : (o : Option ℕ) → close_from at z ≡ o → close_from at z ≡ None
  by None e = e
  by (Some end) e = let r = close_some at end z e in absurd (none (r.text, r.rest, r.is))

pub holds_none : (at : ℕ) (z : List ℕ) → close_from at z ≡ None → HoldsCloser z → ⊥
holds_none at z e h = by at h.0 (sym (ap (close_from at) h.2) ∙ e) where
  past : (b : Bool) (x : ℕ) (o : Option ℕ) → (if b then Some x else o) ≡ None → o ≡ None
  past true x o e = absurd cc
  past false x o e = e

  by : (at : ℕ) (before : List ℕ) → close_from at (before ++ 37 ∷ 62 ∷ h.1) ≡ None → ⊥
  by at [] e = cc
  by at (b ∷ before) e =
      by (at + 1) before (past (closes (b ∷ (before ++ 37 ∷ 62 ∷ h.1))) at
      (close_from (at + 1) (before ++ 37 ∷ 62 ∷ h.1)) e)
