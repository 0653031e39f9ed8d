-- How the definitions on bytes go on by one byte.
use Rattle.std.proofs.Common.{◌≡◌, ℕ, ◌+◌, ◌-◌, ◌<◌, ◌≤◌, true, false, ◌||◌, if◌then◌else◌, List, ◌∷◌, length, drop}
use Rattle.std.proofs.Common.{get_or, Some, refl, ap, subst, sym, ◌∙◌, arith}
use Rattle.std.proofs.lemmas.List.{drop_more, get_or-drop}
use Rattle.epp_text.specs.Pieces.{opens, closes, writes_closer, run_end, is_blank, kept_from, close_from}

run_step : (at b : ℕ) (z : List ℕ) → (opens (b ∷ z) || writes_closer (b ∷ z)) ≡ false
    → run_end at (b ∷ z) ≡ run_end (at + 1) z
run_step at b z goes = rw goes refl

pub run_goes : (at : ℕ) (z : List ℕ) → at < length z → (opens (drop at z) || writes_closer (drop at z)) ≡ false
    → run_end at (drop at z) ≡ run_end (at + 1) (drop (at + 1) z)
run_goes at z h goes =
    let here = drop_more z at 0 h in
    ap (λ x. run_end at x) here
    ∙ run_step at (get_or z at 0) (drop (at + 1) z) (ap (λ x. opens x || writes_closer x) (sym here) ∙ goes)

run_stop : (at b : ℕ) (z : List ℕ) → (opens (b ∷ z) || writes_closer (b ∷ z)) ≡ true → run_end at (b ∷ z) ≡ at
run_stop at b z stops = rw stops refl

pub run_stops : (at : ℕ) (z : List ℕ) → at < length z → (opens (drop at z) || writes_closer (drop at z)) ≡ true
    → run_end at (drop at z) ≡ at
run_stops at z h stops =
    let here = drop_more z at 0 h in
    ap (λ x. run_end at x) here
    ∙ run_stop at (get_or z at 0) (drop (at + 1) z) (ap (λ x. opens x || writes_closer x) (sym here) ∙ stops)

close_step : (at b : ℕ) (z : List ℕ) → closes (b ∷ z) ≡ false → close_from at (b ∷ z) ≡ close_from (at + 1) z
close_step at b z goes = rw goes refl

pub close_goes : (at : ℕ) (z : List ℕ) → at < length z → closes (drop at z) ≡ false
    → close_from at (drop at z) ≡ close_from (at + 1) (drop (at + 1) z)
close_goes at z h goes =
    let here = drop_more z at 0 h in
    ap (λ x. close_from at x) here ∙ close_step at (get_or z at 0) (drop (at + 1) z) (ap closes (sym here) ∙ goes)

close_stop : (at b : ℕ) (z : List ℕ) → closes (b ∷ z) ≡ true → close_from at (b ∷ z) ≡ Some at
close_stop at b z stops = rw stops refl

pub close_stops : (at : ℕ) (z : List ℕ) → at < length z → closes (drop at z) ≡ true
    → close_from at (drop at z) ≡ Some at
close_stops at z h stops =
    let here = drop_more z at 0 h in
    ap (λ x. close_from at x) here ∙ close_stop at (get_or z at 0) (drop (at + 1) z) (ap closes (sym here) ∙ stops)

pub kept_goes : (kept next at : ℕ) (z : List ℕ) → at < length z
    → next ≡ (if is_blank (get_or z at 0) then kept else at + 1)
    → kept_from kept at (drop at z) ≡ kept_from next (at + 1) (drop (at + 1) z)
kept_goes kept next at z h is = rw (drop_more z at 0 h, is) refl

-- the last byte that is dropped behind a tag is a line feed or a blank
pub dropped_ascii : (z : List ℕ) (blanks : ℕ) (line_break : ℕ) → (0 < blanks → get_or z (blanks - 1) 0 < 128)
    → (0 < line_break → get_or (drop blanks z) (line_break - 1) 0 ≡ 10) → 0 < blanks + line_break
    → Dec (1 ≤ line_break) → get_or z (blanks + line_break - 1) 0 < 128
dropped_ascii z blanks line_break blank feed some (yes broken) =
    let e : blanks + (line_break - 1) ≡ blanks + line_break - 1 = omega arith in
    let is : get_or z (blanks + (line_break - 1)) 0 ≡ 10 = sym (get_or-drop blanks z (line_break - 1) 0)
    ∙ feed (omega arith) in
    let at : get_or z (blanks + line_break - 1) 0 ≡ 10 = ap (λ n. get_or z n 0) (sym e) ∙ is in
    omega arith
dropped_ascii z blanks line_break blank feed some (no none) =
    let e : blanks - 1 ≡ blanks + line_break - 1 = omega arith in
    subst (λ (n : ℕ). get_or z n 0 < 128) e (blank (omega arith))
