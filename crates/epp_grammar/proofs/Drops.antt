-- What `-%>` drops behind it.
use Rattle.std.proofs.Common.{◌≡◌, ◌⊎◌, ℕ, ◌+◌, suc, ◌==◌, Bool, true, false, ◌&&◌, if◌then◌else◌, cond, List, [], ◌∷◌}
use Rattle.std.proofs.Common.{◌++◌, append_assoc, length, drop, inl, inr, refl, sym, ap, ◌∙◌, arith}
use Rattle.std.proofs.lemmas.Bool.{cases_Bool, eqb-true}
use Rattle.std.proofs.lemmas.List.{length-append}
use Rattle.std.proofs.Math.Seq.{drop-append_seam}
use Rattle.std.specs.List.{prefix_len}
use Rattle.std.specs.Prelude.{nat_lt}
use Rattle.epp_text.specs.Pieces.{blanks_len, break_len, dropped_len, drops_break, is_blank}
use Rattle.epp_grammar.specs.Texts.{AreBlank, AreDropped, Begins, BeginsWithBlank, BeginsWithBreak}
use Rattle.epp_grammar.proofs.Bytes.{blank_tells, blank_told, both, both_true, clash, not_true, other_byte, same_byte, second_false}

-- no blank stands at the front
Ends : List ℕ → Type 0
Ends [] = Unit {0}
Ends (b ∷ z) = is_blank b ≡ false

cond_true : (b : Bool) (x y : ℕ) → b ≡ true → cond b x y ≡ x
cond_true true x y e = refl
cond_true false x y e = absurd cc

cond_false : (b : Bool) (x y : ℕ) → b ≡ false → cond b x y ≡ y
cond_false true x y e = absurd cc
cond_false false x y e = refl

blanks_at : (blanks rest : List ℕ) → AreBlank blanks → Ends rest → blanks_len (blanks ++ rest) ≡ length blanks
unfolding Ends
blanks_at [] [] all ends = refl
blanks_at [] (b ∷ rest) all ends = cond_false (is_blank b) (1 + prefix_len is_blank rest) 0 ends
blanks_at (b ∷ blanks) rest all ends =
    let n : ℕ = prefix_len is_blank (blanks ++ rest) in
    let more : n ≡ length blanks = blanks_at blanks rest all.1 ends in
    let e : 1 + n ≡ suc (length blanks) = omega (arith, more) in
    cond_true (is_blank b) (1 + n) 0 (blank_tells b all.0) ∙ e

ends_told : (z : List ℕ) → (BeginsWithBlank z → ⊥) → Ends z
unfolding Ends
ends_told [] h = tt
ends_told (b ∷ z) h = not_true (is_blank b) (λ t. elim (blank_told b t) [
  | inl s ↦ h (inl (z, λ i. s i ∷ z))
  | inr s ↦ h (inr (z, λ i. s i ∷ z))
])

-- the length of a break, by whether it is a line feed, and one behind a carriage return
break_by : Bool → Bool → ℕ
break_by feed both = if feed then 1 else (if both then 2 else 0)

break_none : (p q : Bool) → p ≡ false → q ≡ false → break_by p q ≡ 0
unfolding break_by
break_none true q e f = absurd cc
break_none false true e f = absurd cc
break_none false false e f = refl

no_break : (z : List ℕ) → (BeginsWithBreak z → ⊥) → break_len z ≡ 0
unfolding break_by
no_break [] h = refl
no_break (b ∷ []) h =
    break_none (b == 10) (b == 13 && false) (other_byte b 10 (λ e. h (inl ([], λ i. e i ∷ []))))
    (second_false (b == 13) false refl)
no_break (b ∷ c ∷ z) h =
    break_none (b == 10) (b == 13 && c == 10) (other_byte b 10 (λ e. h (inl (c ∷ z, λ i. e i ∷ c ∷ z))))
    (not_true (b == 13 && c == 10) (λ t. let p = both (b == 13) (c == 10) t in
    h (inr (z, λ i. eqb-true b 13 p.0 i ∷ eqb-true c 10 p.1 i ∷ z))))

-- what is dropped, and what is left
pub record IsDropped (behind : List ℕ) (broken : Bool) (rest : List ℕ) : Type 0 where
  pub taken : List ℕ
  pub is : behind ≡ taken ++ rest
  pub long : dropped_len behind ≡ length taken
  pub broke : drops_break behind ≡ broken

-- Blanks, a break of this length behind them, and the rest.
measured : (blanks broken rest : List ℕ) → AreBlank blanks → Ends (broken ++ rest)
    → break_len (broken ++ rest) ≡ length broken
    → (dropped_len (blanks ++ (broken ++ rest)) ≡ length blanks + length broken)
    × (drops_break (blanks ++ (broken ++ rest)) ≡ nat_lt 0 (length broken))
measured blanks broken rest all ends long =
    let z : List ℕ = blanks ++ (broken ++ rest) in
    let n : blanks_len z ≡ length blanks = blanks_at blanks (broken ++ rest) all ends in
    let left : drop (blanks_len z) z ≡ broken ++ rest =
    ap (λ k. drop k z) n ∙ drop-append_seam blanks (broken ++ rest) in
    let len : break_len (drop (blanks_len z) z) ≡ length broken = ap break_len left ∙ long in
    ((λ i. n i + len i), ap (λ k. nat_lt 0 k) len)

pub dropped : (behind : List ℕ) {broken : Bool} {rest : List ℕ} → AreDropped behind broken rest
    → IsDropped behind broken rest
unfolding Ends
dropped behind (AreDropped.feed blanks rest all is) =
    let m = measured blanks (10 ∷ []) rest all refl refl in
    let e : length blanks + 1 ≡ length (blanks ++ 10 ∷ []) =
    sym (length-append blanks (10 ∷ [])) in
    record {
      taken = blanks ++ 10 ∷ [];
      is = is ∙ sym (append_assoc blanks (10 ∷ []) rest);
      long = ap dropped_len is ∙ (m.0 ∙ e);
      broke = ap drops_break is ∙ m.1;
    }
dropped behind (AreDropped.return_and_feed blanks rest all is) =
    let m = measured blanks (13 ∷ 10 ∷ []) rest all refl refl in
    let e : length blanks + 2 ≡ length (blanks ++ 13 ∷ 10 ∷ []) = sym (length-append blanks (13 ∷ 10 ∷ [])) in
    record {
      taken = blanks ++ 13 ∷ 10 ∷ [];
      is = is ∙ sym (append_assoc blanks (13 ∷ 10 ∷ []) rest);
      long = ap dropped_len is ∙ (m.0 ∙ e);
      broke = ap drops_break is ∙ m.1;
    }
dropped behind (AreDropped.blanks_alone blanks rest all is no_blank none) =
    let m = measured blanks [] rest all (ends_told rest no_blank) (no_break rest none) in
    let e : length blanks + 0 ≡ length blanks = omega arith in
    record {
      taken = blanks;
      is = is;
      long = ap dropped_len is ∙ (m.0 ∙ e);
      broke = ap drops_break is ∙ m.1;
    }

-- ---- each text has something that is dropped

record Blanks (z : List ℕ) : Type 0 where
  pub blanks : List ℕ
  pub rest : List ℕ
  pub all : AreBlank blanks
  pub is : z ≡ blanks ++ rest
  pub ends : BeginsWithBlank rest → ⊥

begins_blank : (b : ℕ) (z : List ℕ) → is_blank b ≡ false → BeginsWithBlank (b ∷ z) → ⊥
begins_blank b z isnt (inl h) = let e : b ≡ 32 = cc (h.1) in clash (is_blank b) (blank_tells b (inl e)) isnt
begins_blank b z isnt (inr h) = let e : b ≡ 9 = cc (h.1) in clash (is_blank b) (blank_tells b (inr e)) isnt

blanks_of : (z : List ℕ) → Blanks z
blanks_of [] = record {
  blanks = [];
  rest = [];
  all = tt;
  is = refl;
  ends = λ h. elim h [ inl e ↦ let q = e.1 in absurd cc | inr e ↦ let q = e.1 in absurd cc ];
}
blanks_of (b ∷ z) = elim (cases_Bool (is_blank b)) [
  | inl so ↦
      let r = blanks_of z in
      record {
        blanks = b ∷ r.blanks;
        rest = r.rest;
        all = (blank_told b so, r.all);
        is = ap (λ t. b ∷ t) r.is;
        ends = r.ends;
      }
  | inr isnt ↦ record { blanks = []; rest = b ∷ z; all = tt; is = refl; ends = begins_blank b z isnt }
]

pub record Drops (behind : List ℕ) : Type 0 where
  pub broken : Bool
  pub rest : List ℕ
  pub are : AreDropped behind broken rest

first_break : (z : List ℕ) → (Begins (10 ∷ []) z) ⊎ ((Begins (13 ∷ 10 ∷ []) z) ⊎ (BeginsWithBreak z → ⊥))
first_break [] = inr (inr (λ h. elim h [ inl e ↦ let q = e.1 in absurd cc | inr e ↦ let q = e.1 in absurd cc ]))
first_break (b ∷ []) = elim (cases_Bool (b == 10)) [
  | inl so ↦ inl ([], λ i. eqb-true b 10 so i ∷ [])
  | inr isnt ↦ inr (inr (λ h. elim h [
    | inl e ↦ let q : b ≡ 10 = cc (e.1) in clash (b == 10) (same_byte b 10 q) isnt
    | inr e ↦ let q = e.1 in absurd cc
  ]))
]
first_break (b ∷ c ∷ z) = elim (cases_Bool (b == 10)) [
  | inl so ↦ inl (c ∷ z, λ i. eqb-true b 10 so i ∷ c ∷ z)
  | inr isnt ↦ elim (cases_Bool (b == 13 && c == 10)) [
    | inl so ↦
        let p = both (b == 13) (c == 10) so in
        inr (inl (z, λ i. eqb-true b 13 p.0 i ∷ eqb-true c 10 p.1 i ∷ z))
    | inr neither ↦ inr (inr (λ h. elim h [
      | inl e ↦ let q : b ≡ 10 = cc (e.1) in clash (b == 10) (same_byte b 10 q) isnt
      | inr e ↦
          let q : b ≡ 13 = cc (e.1) in
          let r : c ≡ 10 = cc (e.1) in
          clash (b == 13 && c == 10) (both_true (b == 13) (c == 10) (same_byte b 13 q) (same_byte c 10 r)) neither
    ]))
  ]
]

pub drops_of : (z : List ℕ) → Drops z
drops_of z =
    let r = blanks_of z in
    elim (first_break r.rest) [
      | inl f ↦ record { broken = true; rest = f.0; are = AreDropped.feed r.blanks f.0 r.all (r.is ∙ ap (λ t. r.blanks ++ t) f.1) }
      | inr more ↦ elim more [
        | inl f ↦
            record { broken = true; rest = f.0; are = AreDropped.return_and_feed r.blanks f.0 r.all (r.is ∙ ap (λ t. r.blanks ++ t) f.1) }
        | inr none ↦ record { broken = false; rest = r.rest; are = AreDropped.blanks_alone r.blanks r.rest r.all r.is r.ends none }
      ]
    ]
