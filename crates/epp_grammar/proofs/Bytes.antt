-- Tests of bytes, and what stands at the front of a text that passes them.
use Rattle.std.proofs.Common.{◌≡◌, ◌⊎◌, ℕ, ◌+◌, ◌==◌, Bool, true, false, ◌&&◌, ◌||◌, if◌then◌else◌, List, [], ◌∷◌, ◌++◌}
use Rattle.std.proofs.Common.{length, take, drop, inl, inr, refl, sym, ap, ◌∙◌, arith}
use Rattle.std.proofs.lemmas.Bool.{eq-eqb, eqb-true, true≢false}
use Rattle.std.proofs.lemmas.List.{length-append}
use Rattle.std.proofs.Math.Seq.{take-append_seam}
use Rattle.epp_text.specs.Pieces.{opens, closes, writes_closer, writes_opener, is_blank}
use Rattle.epp_grammar.specs.Texts.{AreBlank, BeginsMark, IsBlank}

pub both : (p q : Bool) → (p && q) ≡ true → (p ≡ true) × (q ≡ true)
both true q h = (refl, h)
both false q h = absurd cc

pub both_true : (p q : Bool) → p ≡ true → q ≡ true → (p && q) ≡ true
both_true true q a b = b
both_true false q a b = absurd cc

pub first_false : (p q : Bool) → p ≡ false → (p && q) ≡ false
first_false true q e = absurd cc
first_false false q e = refl

pub second_false : (p q : Bool) → q ≡ false → (p && q) ≡ false
second_false true q e = e
second_false false q e = refl

pub either : (p q : Bool) → (p || q) ≡ true → (p ≡ true) ⊎ (q ≡ true)
either true q h = inl refl
either false q h = inr h

pub or_first : (p q : Bool) → p ≡ true → (p || q) ≡ true
or_first true q e = refl
or_first false q e = absurd cc

pub or_second : (p q : Bool) → q ≡ true → (p || q) ≡ true
or_second true q e = refl
or_second false q e = e

pub neither : (p q : Bool) → p ≡ false → q ≡ false → (p || q) ≡ false
neither true q a b = absurd cc
neither false q a b = b

pub not_true : (b : Bool) → (b ≡ true → ⊥) → b ≡ false
not_true true h = absurd (h refl)
not_true false h = refl

pub clash : (b : Bool) → b ≡ true → b ≡ false → ⊥
clash b t f = true≢false (sym t ∙ f)

pub if_true : {A : Type 0} (b : Bool) (x y : A) → b ≡ true → (if b then x else y) ≡ x
if_true true x y e = refl
if_true false x y e = absurd cc

pub if_false : {A : Type 0} (b : Bool) (x y : A) → b ≡ false → (if b then x else y) ≡ y
if_false true x y e = absurd cc
if_false false x y e = refl

pub other_byte : (b c : ℕ) → (b ≡ c → ⊥) → (b == c) ≡ false
other_byte b c h = not_true (b == c) (λ t. h (eqb-true b c t))

pub same_byte : (b c : ℕ) → b ≡ c → (b == c) ≡ true
same_byte b c e = eq-eqb b c e

-- ---- lists

pub empty_or_more : {A : Type 0} (z : List A) → (z ≡ []) ⊎ ((b : A) × (more : List A) × (z ≡ b ∷ more))
empty_or_more [] = inl refl
empty_or_more (b ∷ z) = inr (b, z, refl)

pub last_of : (z : List ℕ) → (z ≡ []) ⊎ ((front : List ℕ) × (b : ℕ) × (z ≡ front ++ b ∷ []))
last_of [] = inl refl
last_of (c ∷ z) = elim (last_of z) [
  | inl none ↦ inr ([], c, ap (λ t. c ∷ t) none)
  | inr some ↦ inr (c ∷ some.0, some.1, ap (λ t. c ∷ t) some.2)
]

pub not_nothing : (front : List ℕ) (b : ℕ) (more : List ℕ) → [] ≡ front ++ b ∷ more → ⊥
not_nothing [] b more e = cc
not_nothing (c ∷ front) b more e = cc

-- what stands before the same is the same
pub same_front : (a b rest : List ℕ) → a ++ rest ≡ b ++ rest → a ≡ b
same_front a b rest e =
    let lengths : length a + length rest ≡ length b + length rest =
    sym (length-append a rest) ∙ (ap length e ∙ length-append b rest) in
    let long : length a ≡ length b = omega (arith, lengths) in
    sym (take-append_seam a rest)
    ∙ (ap (λ z. take (length a) z) e
    ∙ (ap (λ n. take n (b ++ rest)) long ∙ take-append_seam b rest))

pub last_same : (front other : List ℕ) (b c : ℕ) → front ++ b ∷ [] ≡ other ++ c ∷ [] → b ≡ c
last_same [] [] b c e = cc
last_same [] (d ∷ other) b c e = absurd (not_nothing other c [] (tail_of e)) where
  tail_of : b ∷ [] ≡ d ∷ (other ++ c ∷ []) → [] ≡ other ++ c ∷ []
  tail_of h = cc
last_same (d ∷ front) [] b c e = absurd (not_nothing front b [] (tail_of e)) where
  tail_of : d ∷ (front ++ b ∷ []) ≡ c ∷ [] → [] ≡ front ++ b ∷ []
  tail_of h = cc
last_same (d ∷ front) (f ∷ other) b c e = last_same front other b c (tail_of e) where
  tail_of : d ∷ (front ++ b ∷ []) ≡ f ∷ (other ++ c ∷ []) → front ++ b ∷ [] ≡ other ++ c ∷ []
  tail_of h = cc

-- ---- marks

pub opens_shape : (z : List ℕ) → opens z ≡ true → z ≡ 60 ∷ 37 ∷ drop 2 z
opens_shape [] e = absurd cc
opens_shape (a ∷ []) e = let q : false ≡ true = (both (a == 60) false e).1 in absurd cc
opens_shape (a ∷ b ∷ z) e =
    let p = both (a == 60) (b == 37) e in
    λ i. eqb-true a 60 p.0 i ∷ eqb-true b 37 p.1 i ∷ z

pub closes_shape : (z : List ℕ) → closes z ≡ true → z ≡ 37 ∷ 62 ∷ drop 2 z
closes_shape [] e = absurd cc
closes_shape (a ∷ []) e = let q : false ≡ true = (both (a == 37) false e).1 in absurd cc
closes_shape (a ∷ b ∷ z) e =
    let p = both (a == 37) (b == 62) e in
    λ i. eqb-true a 37 p.0 i ∷ eqb-true b 62 p.1 i ∷ z

pub writes_opener_shape : (z : List ℕ) → writes_opener z ≡ true → z ≡ 60 ∷ 37 ∷ 37 ∷ drop 3 z
writes_opener_shape [] e = absurd cc
writes_opener_shape (a ∷ []) e =
    let p = both (opens (a ∷ [])) false e in let q : false ≡ true = p.1 in absurd cc
writes_opener_shape (a ∷ b ∷ []) e =
    let p = both (opens (a ∷ b ∷ [])) false e in let q : false ≡ true = p.1 in absurd cc
writes_opener_shape (a ∷ b ∷ c ∷ z) e =
    let p = both (opens (a ∷ b ∷ c ∷ z)) (c == 37) e in
    let q = both (a == 60) (b == 37) p.0 in
    λ i. eqb-true a 60 q.0 i ∷ eqb-true b 37 q.1 i ∷ eqb-true c 37 p.1 i ∷ z

pub writes_closer_shape : (z : List ℕ) → writes_closer z ≡ true → z ≡ 37 ∷ 37 ∷ 62 ∷ drop 3 z
writes_closer_shape [] e = absurd cc
writes_closer_shape (a ∷ []) e = let q : false ≡ true = (both (a == 37) false e).1 in absurd cc
writes_closer_shape (a ∷ b ∷ []) e =
    let p = both (a == 37) (closes (b ∷ [])) e in
    let q : false ≡ true = (both (b == 37) false p.1).1 in absurd cc
writes_closer_shape (a ∷ b ∷ c ∷ z) e =
    let p = both (a == 37) (closes (b ∷ c ∷ z)) e in
    let q = both (b == 37) (c == 62) p.1 in
    λ i. eqb-true a 37 p.0 i ∷ eqb-true b 37 q.0 i ∷ eqb-true c 62 q.1 i ∷ z

unfoldable pub is_mark : List ℕ → Bool
is_mark z = opens z || writes_closer z

pub mark_told : (z : List ℕ) → is_mark z ≡ true → BeginsMark z
unfolding is_mark
mark_told z e = elim (either (opens z) (writes_closer z) e) [
  | inl o ↦ inl (drop 2 z, opens_shape z o)
  | inr c ↦ inr (drop 3 z, writes_closer_shape z c)
]

pub mark_tells : (z : List ℕ) → BeginsMark z → is_mark z ≡ true
unfolding is_mark
mark_tells z (inl o) = or_first (opens z) (writes_closer z) (ap opens o.1)
mark_tells z (inr c) = or_second (opens z) (writes_closer z) (ap writes_closer c.1)

pub no_mark_told : (z : List ℕ) → (BeginsMark z → ⊥) → is_mark z ≡ false
no_mark_told z h = not_true (is_mark z) (λ t. h (mark_told z t))

-- ---- blanks

pub blank_told : (b : ℕ) → is_blank b ≡ true → IsBlank b
blank_told b e = elim (either (b == 32) (b == 9) e) [
  | inl s ↦ inl (eqb-true b 32 s)
  | inr t ↦ inr (eqb-true b 9 t)
]

pub blank_tells : (b : ℕ) → IsBlank b → is_blank b ≡ true
blank_tells b (inl s) = or_first (b == 32) (b == 9) (same_byte b 32 s)
blank_tells b (inr t) = or_second (b == 32) (b == 9) (same_byte b 9 t)

pub are_blank-append : (a b : List ℕ) → AreBlank (a ++ b) → AreBlank a × AreBlank b
are_blank-append [] b h = (tt, h)
are_blank-append (c ∷ a) b h = let r = are_blank-append a b h.1 in ((h.0, r.0), r.1)
