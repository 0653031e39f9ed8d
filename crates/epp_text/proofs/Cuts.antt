-- Where a template may be cut, and that what stands at a place is a part of it.
use Rattle.std.proofs.Common.{◌≡◌, ℕ, zero, suc, ◌+◌, ◌-◌, ◌<◌, ◌≤◌, ◌==◌, Bool, true, false, ◌&&◌, List, length}
use Rattle.std.proofs.Common.{take, drop, get_or, IsUtf8, Option, Some, get_or-take, refl, subst, sym, ◌∙◌, arith}
use Rattle.std.proofs.lemmas.Grind.{get_or_after_one}
use Rattle.std.proofs.lemmas.List.{get_or-drop}
use Rattle.std.proofs.Math.Decide.{dec_le}
use Rattle.std.proofs.lemmas.Bool.Decides.{nat_tests}
use Rattle.std.proofs.lemmas.Str.{IsCharBoundary-start, IsCharBoundary-end, IsCharBoundary-after_ascii}
use Rattle.std.proofs.lemmas.Str.{IsCharBoundary-before_ascii}
use Rattle.std.specs.Str.{IsCharBoundary}
use Rattle.epp_text.specs.Fronts.{IsPart}
use Rattle.epp_text.specs.Pieces.{front, opens, closes, writes_opener, writes_closer}
use Rattle.epp_text.specs.declared.piece.PieceKind.{PieceKind}
use Rattle.epp_text.specs.declared.piece.PieceKind.TheVariants as kinds

-- before an ASCII byte or at the end, and behind an ASCII byte
cut_before : (z : List ℕ) (n : ℕ) → n ≤ length z → (n < length z → get_or z n 0 < 128) → IsCharBoundary z n
cut_before z n within next = (within, λ more high. (IsCharBoundary-before_ascii z n more (next more)).1 more high)

cut_after : (z : List ℕ) (n : ℕ) → IsUtf8 z → 0 < n → n ≤ length z → get_or z (n - 1) 0 < 128 → IsCharBoundary z n
cut_after z n utf8 some within last =
    let e : n - 1 + 1 ≡ n = omega arith in
    subst (IsCharBoundary z) e (IsCharBoundary-after_ascii z (n - 1) utf8 (omega arith) last)

-- a byte of the front of a text is that of the text
pub taken_byte : (z : List ℕ) (len n : ℕ) → 0 < n → n < len → get_or (take len z) (n - 1) 0 ≡ 10
    → get_or z (n - 1) 0 ≡ 10
taken_byte z len n some low is = sym (get_or-take len z (n - 1) 0 (omega arith)) ∙ is

-- the place behind an indent that is dropped
run_end_cut : (z : List ℕ) (to len : ℕ) → IsUtf8 z → len ≤ length z → (len < length z → get_or z len 0 < 128)
    → to ≤ len → (0 < to → to < len → get_or z (to - 1) 0 ≡ 10)
    → Dec (1 ≤ to) → Dec (suc to ≤ len) → IsCharBoundary z to
run_end_cut z to len utf8 within next low feed (no none) more = let e : 0 ≡ to = omega arith in
    subst (IsCharBoundary z) e (IsCharBoundary-start z utf8)
run_end_cut z to len utf8 within next low feed (yes some) (no all) = let e : len ≡ to = omega arith in
    subst (IsCharBoundary z) e (cut_before z len within next)
run_end_cut z to len utf8 within next low feed (yes some) (yes below) =
    cut_after z to utf8 (omega arith) (omega arith) (omega (arith, feed (omega arith) (omega arith)))

pub run_is_part : (z : List ℕ) (to len : ℕ) (begins : Bool) → IsUtf8 z → 0 < len → len ≤ length z
    → (len < length z → get_or z len 0 < 128) → to ≤ len → (0 < to → to < len → get_or z (to - 1) 0 ≡ 10)
    → IsPart z (front (Some kinds.Text) 0 to len begins)
run_is_part z to len begins utf8 moves within next low feed = record {
  moves = moves;
  ordered = omega arith;
  begin = IsCharBoundary-start z utf8;
  end = run_end_cut z to len utf8 within next low feed (dec_le 1 to) (dec_le (suc to) len);
  boundary = cut_before z len within next;
}

pub rest_is_part : (z : List ℕ) (kind : Option PieceKind) (begins : Bool) → IsUtf8 z → 0 < length z
    → IsPart z (front kind 0 0 (length z) begins)
rest_is_part z kind begins utf8 some = record {
  moves = some;
  ordered = omega arith;
  begin = IsCharBoundary-start z utf8;
  end = IsCharBoundary-start z utf8;
  boundary = IsCharBoundary-end z;
}

-- a tag, from the text within it on
pub tag_is_part : (z : List ℕ) (kind : Option PieceKind) (from end : ℕ) (begins : Bool) → IsUtf8 z
    → (0 < from) × (get_or z (from - 1) 0 < 128) → (from ≤ end) × (end + 2 ≤ length z)
    → (get_or z end 0 ≡ 37) × (get_or z (end + 1) 0 ≡ 62) → IsPart z (front kind from end (end + 2) begins)
tag_is_part z kind from end begins utf8 begun within ends = record {
  moves = omega arith;
  ordered = within.0;
  begin = cut_after z from utf8 begun.0 (omega (arith, within.0, within.1)) begun.1;
  end = cut_before z end (omega (arith, within.1)) (λ _. omega (arith, ends.0));
  boundary = let e : end + 2 - 1 ≡ end + 1 = omega arith in
      cut_after z (end + 2) utf8 (omega arith) within.1 (rw e (omega (arith, ends.1)));
}

dashed_end : (z : List ℕ) (end more : ℕ) → IsUtf8 z → end + 2 + more ≤ length z → get_or z (end + 1) 0 ≡ 62
    → (0 < more → get_or (drop (end + 2) z) (more - 1) 0 < 128) → Dec (1 ≤ more) → IsCharBoundary z (end + 2 + more)
dashed_end z end more utf8 within last behind (yes some) =
    let e : end + 2 + (more - 1) ≡ end + 2 + more - 1 = omega arith in
    cut_after z (end + 2 + more) utf8 (omega arith) within
    (subst (λ (n : ℕ). get_or z n 0 < 128) e (behind_byte z (end + 2) (more - 1) (behind (omega arith))))
  where
    behind_byte : (z : List ℕ) (n k : ℕ) → get_or (drop n z) k 0 < 128 → get_or z (n + k) 0 < 128
    behind_byte z n k h = subst (λ (b : ℕ). b < 128) (get_or-drop n z k 0) h
dashed_end z end more utf8 within last behind (no none) =
    let e : end + 2 ≡ end + 2 + more = omega arith in
    let f : end + 2 - 1 ≡ end + 1 = omega arith in
    subst (IsCharBoundary z) e (cut_after z (end + 2) utf8 (omega arith) (omega arith) (rw f (omega (arith, last))))

pub dashed_is_part : (z : List ℕ) (kind : Option PieceKind) (from end more : ℕ) (begins : Bool) → IsUtf8 z
    → (0 < from) × (get_or z (from - 1) 0 < 128) → (from < end) × (end + 2 ≤ length z)
    → get_or z (end - 1) 0 ≡ 45 → get_or z (end + 1) 0 ≡ 62 → end + 2 + more ≤ length z
    → (0 < more → get_or (drop (end + 2) z) (more - 1) 0 < 128)
    → IsPart z (front kind from (end - 1) (end + 2 + more) begins)
dashed_is_part z kind from end more begins utf8 begun within dash last all behind = record {
  moves = omega arith;
  ordered = omega (arith, within.0);
  begin = cut_after z from utf8 begun.0 (omega (arith, within.0, within.1)) begun.1;
  end = cut_before z (end - 1) (omega (arith, within.1)) (λ _. omega (arith, dash));
  boundary = dashed_end z end more utf8 all last behind (dec_le 1 more);
}

-- ---- the marks that are texts

pub written_is_part : (z : List ℕ) (kind : Option PieceKind) (from to : ℕ) (begins : Bool) → IsUtf8 z → 3 ≤ length z
    → from < 2 → to ≤ 3 → from ≤ to → ((k : ℕ) → k < 3 → get_or z k 0 < 128) → IsPart z (front kind from to 3 begins)
written_is_part z kind from to begins utf8 within low high ordered ascii = record {
  moves = omega arith;
  ordered = ordered;
  begin = cut_before z from (omega arith) (λ _. ascii from (omega arith));
  end = written_cut z to utf8 within high ascii;
  boundary = written_cut z 3 utf8 within (omega arith) ascii;
}
  where
    written_cut : (z : List ℕ) (n : ℕ) → IsUtf8 z → 3 ≤ length z → n ≤ 3 → ((k : ℕ) → k < 3 → get_or z k 0 < 128)
        → IsCharBoundary z n
    written_cut z zero utf8 within high ascii = IsCharBoundary-start z utf8
    written_cut z (suc n) utf8 within high ascii =
        let e : suc n - 1 ≡ n = omega arith in
        cut_after z (suc n) utf8 (omega arith) (omega arith) (rw e (ascii n (omega arith)))

both : (p q : Bool) → (p && q) ≡ true → (p ≡ true) × (q ≡ true)
both true q h = (refl, h)
both false q h = absurd (cc)

three : (z : List ℕ) → get_or z 0 0 < 128 → get_or z 1 0 < 128 → get_or z 2 0 < 128 → (k : ℕ) → k < 3
    → get_or z k 0 < 128
three z a b c zero h = a
three z a b c (suc zero) h = b
three z a b c (suc (suc zero)) h = c
three z a b c (suc (suc (suc k))) h = absurd (omega arith)

is_byte : (b c : ℕ) → (b == c) ≡ true → c < 128 → b < 128
is_byte b c is low = let e : b ≡ c = grind (arith, nat_tests, is) in omega arith

pub opener_ascii : (z : List ℕ) → writes_opener z ≡ true → (k : ℕ) → k < 3 → get_or z k 0 < 128
opener_ascii z h =
    let p = both (opens z) (get_or z 2 0 == 37) h in
    let q = both (get_or z 0 0 == 60) (get_or z 1 0 == 37) p.0 in
    three z (is_byte _ 60 q.0 (omega arith)) (is_byte _ 37 q.1 (omega arith)) (is_byte _ 37 p.1 (omega arith))

pub closer_ascii : (z : List ℕ) → writes_closer z ≡ true → (k : ℕ) → k < 3 → get_or z k 0 < 128
closer_ascii z h =
    let p = both (get_or z 0 0 == 37) (closes (drop 1 z)) h in
    let q = both (get_or (drop 1 z) 0 0 == 37) (get_or (drop 1 z) 1 0 == 62) p.1 in
    three z (is_byte _ 37 p.0 (omega arith))
    (subst (λ (b : ℕ). b < 128) (get_or_after_one z 0 0) (is_byte _ 37 q.0 (omega arith)))
    (subst (λ (b : ℕ). b < 128) (get_or_after_one z 1 0) (is_byte _ 62 q.1 (omega arith)))
