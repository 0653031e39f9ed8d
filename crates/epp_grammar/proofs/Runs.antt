-- A run of text: how far it goes, and what is kept of it.
use Rattle.std.proofs.Common.{◌≡◌, ◌⊎◌, ℕ, ◌+◌, ◌-◌, suc, ◌==◌, Bool, true, false, ◌||◌, if◌then◌else◌, List, [], ◌∷◌}
use Rattle.std.proofs.Common.{◌++◌, append_assoc, length, get_or, inl, inr, refl, sym, ap, subst, ◌∙◌, arith}
use Rattle.std.proofs.lemmas.Bool.{cases_Bool, eqb-true}
use Rattle.std.proofs.lemmas.List.{length-append}
use Rattle.std.proofs.Math.Seq.{get_or-append_seam}
use Rattle.std.specs.Prelude.{slice_index}
use Rattle.epp_text.specs.Pieces.{opens, writes_closer, is_blank, run_end, kept_from, indent_from}
use Rattle.epp_grammar.specs.Texts.{AreBlank, BeginsLine, BeginsMark, IsIndented, IsRun}
use Rattle.epp_grammar.proofs.Bytes.{are_blank-append, blank_tells, blank_told, clash, if_false, if_true, is_mark}
use Rattle.epp_grammar.proofs.Bytes.{mark_tells, mark_told, no_mark_told, not_nothing, not_true, other_byte, same_byte}

-- ---- how far it goes

run_stop : (at b : ℕ) (z : List ℕ) → is_mark (b ∷ z) ≡ true → run_end at (b ∷ z) ≡ at
unfolding is_mark
run_stop at b z e = if_true (opens (b ∷ z) || writes_closer (b ∷ z)) at (run_end (at + 1) z) e

run_more : (at b : ℕ) (z : List ℕ) → is_mark (b ∷ z) ≡ false → run_end at (b ∷ z) ≡ run_end (at + 1) z
unfolding is_mark
run_more at b z e = if_false (opens (b ∷ z) || writes_closer (b ∷ z)) at (run_end (at + 1) z) e

mark_at : (at : ℕ) (z : List ℕ) → BeginsMark z → run_end at z ≡ at
mark_at at [] m = refl
mark_at at (b ∷ z) m = run_stop at b z (mark_tells (b ∷ z) m)

run_end_at : (at : ℕ) (tail rest : List ℕ)
    → ((before after : List ℕ) → tail ≡ before ++ after → (after ≡ [] → ⊥) → BeginsMark (after ++ rest) → ⊥)
    → (rest ≡ []) ⊎ BeginsMark rest → run_end at (tail ++ rest) ≡ at + length tail
run_end_at at [] rest none (inl end) = let e : at ≡ at + 0 = omega arith in ap (run_end at) end ∙ e
run_end_at at [] rest none (inr mark) = let e : at ≡ at + 0 = omega arith in mark_at at rest mark ∙ e
run_end_at at (b ∷ tail) rest none ends =
    let e : at + 1 + length tail ≡ at + suc (length tail) = omega arith in
    run_more at b (tail ++ rest) (no_mark_told (b ∷ (tail ++ rest)) (none [] (b ∷ tail) refl (λ h. cc)))
    ∙ (run_end_at (at + 1) tail rest (λ before after is. none (b ∷ before) after (ap (λ t. b ∷ t) is)) ends ∙ e)

pub run_is : (b : ℕ) (tail rest : List ℕ) → IsRun (b ∷ tail) rest → run_end 1 (tail ++ rest) ≡ length (b ∷ tail)
run_is b tail rest r =
    let e : 1 + length tail ≡ suc (length tail) = omega arith in
    run_end_at 1 tail rest (λ before after is. r.no_mark (b ∷ before) after (ap (λ t. b ∷ t) is)) r.ends ∙ e

-- ---- each text where no mark stands begins with a run

pub record Run (z : List ℕ) : Type 0 where
  pub run : List ℕ
  pub rest : List ℕ
  pub is : z ≡ run ++ rest
  pub are : IsRun run rest

only_itself : (b : ℕ) (before after : List ℕ) → b ∷ [] ≡ before ++ after → (after ≡ [] → ⊥) → after ≡ b ∷ []
only_itself b [] after e some = sym e
only_itself b (c ∷ before) [] e some = absurd (some refl)
only_itself b (c ∷ before) (d ∷ after) e some = absurd (not_nothing before d after (by e)) where
  by : b ∷ [] ≡ c ∷ (before ++ d ∷ after) → [] ≡ before ++ d ∷ after
  by h = cc

one_byte : (b : ℕ) (rest : List ℕ) → (BeginsMark (b ∷ rest) → ⊥) → (rest ≡ []) ⊎ BeginsMark rest → Run (b ∷ rest)
one_byte b rest none ends = record {
  run = b ∷ [];
  rest = rest;
  is = refl;
  are = record {
    some = λ e. cc;
    no_mark = λ before after is some mark.
        none (subst (λ t. BeginsMark (t ++ rest)) (only_itself b before after is some) mark);
    ends = ends;
  };
}

more_bytes : (b : ℕ) (z : List ℕ) → (BeginsMark (b ∷ z) → ⊥) → Run z → Run (b ∷ z)
more_bytes b z none r = record {
  run = b ∷ r.run;
  rest = r.rest;
  is = ap (λ t. b ∷ t) r.is;
  are = record {
    some = λ e. cc;
    no_mark = by;
    ends = r.are.ends;
  };
} where
  by : (before after : List ℕ) → b ∷ r.run ≡ before ++ after → (after ≡ [] → ⊥) → BeginsMark (after ++ r.rest) → ⊥
  by [] after e some mark =
      none (subst BeginsMark (sym (ap (λ t. b ∷ t) r.is ∙ ap (λ t. t ++ r.rest) e)) mark)
  by (c ∷ before) after e some mark = r.are.no_mark before after (tail_of e) some mark where
    tail_of : b ∷ r.run ≡ c ∷ (before ++ after) → r.run ≡ before ++ after
    tail_of h = cc

pub run_of : (b : ℕ) (z : List ℕ) → (BeginsMark (b ∷ z) → ⊥) → Run (b ∷ z)
run_of b [] none = one_byte b [] none (inl refl)
run_of b (c ∷ z) none = elim (cases_Bool (is_mark (c ∷ z))) [
  | inl so ↦ one_byte b (c ∷ z) none (inr (mark_told (c ∷ z) so))
  | inr isnt ↦ more_bytes b (c ∷ z) none (run_of c z (λ m. clash (is_mark (c ∷ z)) (mark_tells (c ∷ z) m) isnt))
]

-- ---- what is kept

kept_past : (kept at b : ℕ) (z : List ℕ) → is_blank b ≡ true → kept_from kept at (b ∷ z) ≡ kept_from kept (at + 1) z
kept_past kept at b z so =
    ap (λ n. kept_from n (at + 1) z) (if_true (is_blank b) kept (at + 1) so)

all_blank : (kept at : ℕ) (z : List ℕ) → AreBlank z → kept_from kept at z ≡ kept
all_blank kept at [] all = refl
all_blank kept at (b ∷ z) all = kept_past kept at b z (blank_tells b all.0) ∙ all_blank kept (at + 1) z all.1

last_kept : (kept at : ℕ) (front : List ℕ) (b : ℕ) (blanks : List ℕ) → is_blank b ≡ false → AreBlank blanks
    → kept_from kept at (front ++ b ∷ blanks) ≡ at + length front + 1
last_kept kept at [] b blanks isnt all =
    let e : at + 1 ≡ at + 0 + 1 = omega arith in
    ap (λ n. kept_from n (at + 1) blanks) (if_false (is_blank b) kept (at + 1) isnt)
    ∙ (all_blank (at + 1) (at + 1) blanks all ∙ e)
last_kept kept at (c ∷ front) b blanks isnt all =
    let e : at + 1 + length front + 1 ≡ at + suc (length front) + 1 = omega arith in
    last_kept (if is_blank c then kept else at + 1) (at + 1) front b blanks isnt all ∙ e

pub indent_blank : (begins : Bool) (run : List ℕ) → AreBlank run
    → indent_from begins run ≡ (if begins then 0 else length run)
indent_blank begins run all = ap (λ k.
    if k == 0 then (if begins then 0 else length run)
    else (if slice_index run (k - 1) == 10 then k else length run)) (all_blank 0 0 run all)

pub indent_other : (begins : Bool) (front : List ℕ) (b : ℕ) (blanks : List ℕ) → is_blank b ≡ false → AreBlank blanks
    → indent_from begins (front ++ b ∷ blanks)
    ≡ (if b == 10 then length front + 1 else length (front ++ b ∷ blanks))
indent_other begins front b blanks isnt all =
    let run : List ℕ = front ++ b ∷ blanks in
    let kept : kept_from 0 0 run ≡ suc (length front) =
    (let e : 0 + length front + 1 ≡ suc (length front) = omega arith in last_kept 0 0 front b blanks isnt all ∙ e) in
    let byte : slice_index run (suc (length front) - 1) ≡ b =
    (let e : suc (length front) - 1 ≡ length front = omega arith in
    ap (λ n. get_or run n 0) e ∙ get_or-append_seam front b blanks 0) in
    let e : suc (length front) ≡ length front + 1 = omega arith in
    ap (λ k. if k == 0 then (if begins then 0 else length run)
    else (if slice_index run (k - 1) == 10 then k else length run)) kept
    ∙ (if_false (suc (length front) == 0) (if begins then 0 else length run)
    (if slice_index run (suc (length front) - 1) == 10 then suc (length front) else length run)
    (other_byte (suc (length front)) 0 (λ h. absurd (omega (arith, h))))
    ∙ (λ i. if byte i == 10 then e i else length run))

-- all blank, or a last byte that is none
pub record LastByte (z : List ℕ) : Type 0 where
  pub front : List ℕ
  pub byte : ℕ
  pub blanks : List ℕ
  pub is : z ≡ front ++ byte ∷ blanks
  pub isnt : is_blank byte ≡ false
  pub all : AreBlank blanks

pub last_byte : (z : List ℕ) → AreBlank z ⊎ LastByte z
last_byte [] = inl tt
last_byte (c ∷ z) = elim (last_byte z) [
  | inl all ↦ elim (cases_Bool (is_blank c)) [
    | inl so ↦ inl (blank_told c so, all)
    | inr isnt ↦ inr (record { front = []; byte = c; blanks = z; is = refl; isnt = isnt; all = all })
  ]
  | inr r ↦ inr (record {
    front = c ∷ r.front;
    byte = r.byte;
    blanks = r.blanks;
    is = ap (λ t. c ∷ t) r.is;
    isnt = r.isnt;
    all = r.all;
  })
]

-- blanks behind a line feed, or at the front of a run that begins a line, go
pub indent_dropped_at : (begins : Bool) (run kept : List ℕ) → IsIndented begins run kept
    → indent_from begins run ≡ length kept
indent_dropped_at begins run kept i = by i.line where
  by : BeginsLine begins kept → indent_from begins run ≡ length kept
  by (inl feed) =
      let is : run ≡ feed.0 ++ 10 ∷ i.blanks =
      i.is ∙ (ap (λ t. t ++ i.blanks) feed.1 ∙ append_assoc feed.0 (10 ∷ []) i.blanks) in
      ap (indent_from begins) is
      ∙ (indent_other begins feed.0 10 i.blanks refl i.are_blank
      ∙ (sym (length-append feed.0 (10 ∷ [])) ∙ sym (ap length feed.1)))
  by (inr none) =
      let is : run ≡ i.blanks = i.is ∙ ap (λ t. t ++ i.blanks) none.0 in
      indent_blank begins run (subst AreBlank (sym is) i.are_blank)
      ∙ (ap (λ b. if b then 0 else length run) none.1 ∙ sym (ap length none.0))

-- others stay
pub indent_stays : (begins : Bool) (run : List ℕ) → ((kept : List ℕ) → IsIndented begins run kept → ⊥)
    → indent_from begins run ≡ length run
indent_stays begins run none = by (last_byte run) where
  by : AreBlank run ⊎ LastByte run → indent_from begins run ≡ length run
  by (inl all) = indent_blank begins run all ∙ if_false begins 0 (length run) (not_true begins (λ e.
      none [] (record { blanks = run; are_blank = all; is = refl; line = inr (refl, e) })))
  by (inr r) =
      let other : (r.byte == 10) ≡ false = other_byte r.byte 10 (λ e. none (r.front ++ 10 ∷ []) (record {
        blanks = r.blanks;
        are_blank = r.all;
        is = r.is ∙ (ap (λ b. r.front ++ b ∷ r.blanks) e ∙ sym (append_assoc r.front (10 ∷ []) r.blanks));
        line = inl (r.front, refl);
      })) in
      ap (indent_from begins) r.is
      ∙ (indent_other begins r.front r.byte r.blanks r.isnt r.all
      ∙ (if_false (r.byte == 10) (length r.front + 1) (length (r.front ++ r.byte ∷ r.blanks)) other
      ∙ sym (ap length r.is)))

-- ---- either blanks go, or none do

feed_is_none : is_blank 10 ≡ false
feed_is_none = refl

not_blank : (front blanks : List ℕ) → AreBlank (front ++ 10 ∷ blanks) → ⊥
not_blank front blanks all =
    let h = (are_blank-append front (10 ∷ blanks) all).1 in clash (is_blank 10) (blank_tells 10 h.0) feed_is_none

-- the last byte that is no blank is one alone
one_last : (f g : List ℕ) (b c : ℕ) (x y : List ℕ) → is_blank b ≡ false → is_blank c ≡ false → AreBlank x → AreBlank y
    → f ++ b ∷ x ≡ g ++ c ∷ y → b ≡ c
one_last f g b c x y nb nc ax ay e =
    let p : kept_from 0 0 (f ++ b ∷ x) ≡ 0 + length f + 1 = last_kept 0 0 f b x nb ax in
    let q : kept_from 0 0 (g ++ c ∷ y) ≡ 0 + length g + 1 = last_kept 0 0 g c y nc ay in
    let long : 0 + length f + 1 ≡ 0 + length g + 1 = sym p ∙ (ap (kept_from 0 0) e ∙ q) in
    let same : length f ≡ length g = omega (arith, long) in
    sym (get_or-append_seam f b x 0)
    ∙ (ap (λ n. get_or (f ++ b ∷ x) n 0) same ∙ (ap (λ z. get_or z (length g) 0) e ∙ get_or-append_seam g c y 0))

pub record Indented (begins : Bool) (run : List ℕ) : Type 0 where
  pub kept : List ℕ
  pub is : IsIndented begins run kept

pub indent_cases : (begins : Bool) (run : List ℕ)
    → Indented begins run ⊎ ((kept : List ℕ) → IsIndented begins run kept → ⊥)
indent_cases begins run = by (last_byte run) where
  blank_run : AreBlank run → begins ≡ false → (kept : List ℕ) → IsIndented begins run kept → ⊥
  blank_run all isnt kept i = elim i.line [
    | inl feed ↦
        let is : run ≡ feed.0 ++ 10 ∷ i.blanks =
        i.is ∙ (ap (λ t. t ++ i.blanks) feed.1 ∙ append_assoc feed.0 (10 ∷ []) i.blanks) in
        not_blank feed.0 i.blanks (subst AreBlank is all)
    | inr none ↦ clash begins none.1 isnt
  ]

  other_run : (r : LastByte run) → (r.byte == 10) ≡ false → (kept : List ℕ) → IsIndented begins run kept → ⊥
  other_run r isnt kept i = elim i.line [
    | inl feed ↦
        let is : run ≡ feed.0 ++ 10 ∷ i.blanks =
        i.is ∙ (ap (λ t. t ++ i.blanks) feed.1 ∙ append_assoc feed.0 (10 ∷ []) i.blanks) in
        clash (r.byte == 10) (same_byte r.byte 10 (one_last r.front feed.0 r.byte 10 r.blanks i.blanks r.isnt
        feed_is_none r.all i.are_blank (sym r.is ∙ is))) isnt
    | inr none ↦
        let is : run ≡ i.blanks = i.is ∙ ap (λ t. t ++ i.blanks) none.0 in
        let all : AreBlank (r.front ++ r.byte ∷ r.blanks) = subst AreBlank (sym is ∙ r.is) i.are_blank in
        let h = (are_blank-append r.front (r.byte ∷ r.blanks) all).1 in
        clash (is_blank r.byte) (blank_tells r.byte h.0) r.isnt
  ]

  by : AreBlank run ⊎ LastByte run → Indented begins run ⊎ ((kept : List ℕ) → IsIndented begins run kept → ⊥)
  by (inl all) = elim (cases_Bool begins) [
    | inl so ↦ inl (record {
      kept = [];
      is = record { blanks = run; are_blank = all; is = refl; line = inr (refl, so) };
    })
    | inr isnt ↦ inr (blank_run all isnt)
  ]
  by (inr r) = elim (cases_Bool (r.byte == 10)) [
    | inl so ↦ inl (record {
      kept = r.front ++ 10 ∷ [];
      is = record {
        blanks = r.blanks;
        are_blank = r.all;
        is = r.is ∙ (ap (λ b. r.front ++ b ∷ r.blanks) (eqb-true r.byte 10 so)
            ∙ sym (append_assoc r.front (10 ∷ []) r.blanks));
        line = inl (r.front, refl);
      };
    })
    | inr isnt ↦ inr (other_run r isnt)
  ]
