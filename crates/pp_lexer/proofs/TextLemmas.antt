-- How the definitions of texts go on by one byte.
use Rattle.std.proofs.Common.{◌≡◌, ℕ, zero, suc, ◌+◌, ◌<◌, Bool, true, false, not, ◌&&◌, ◌||◌, ◌==◌, List, [], ◌∷◌, Some, length, drop, get_or, refl, ap, sym, ◌∙◌, add-one, arith}
use Rattle.pp_lexer.specs.Texts.{quoted_end, ends_run, run_end}
use Rattle.memchr.specs.Find.{NoneBefore, Passes, is_byte2}
use Rattle.pp_lexer.proofs.WordLemmas.{drop_at, is_no}

neither : (p q : Bool) → (p || q) ≡ false → (p ≡ false) × (q ≡ false)
neither true q h = absurd (cc)
neither false q h = (refl, h)

pub quoted_goes : (taken next : Bool) (at : ℕ) (z : List ℕ) → at < length z → (taken ≡ false → (get_or z at 0 == 39) ≡ false) → next ≡ (not taken && (get_or z at 0 == 92)) → quoted_end taken at (drop at z) ≡ quoted_end next (at + 1) (drop (at + 1) z)
quoted_goes true next at z h goes is = rw (drop_at z at h, is) refl
quoted_goes false next at z h goes is = rw (drop_at z at h, goes refl, is) refl

run_step : (taken next : Bool) (at b : ℕ) (z : List ℕ) → (taken ≡ false → ends_run (b ∷ z) ≡ false) → next ≡ (not taken && (b == 92)) → run_end taken at (b ∷ z) ≡ run_end next (at + 1) z
run_step true next at b z goes is = rw is refl
run_step false next at b z goes is = rw (goes refl, is) refl

pub run_goes : (taken next : Bool) (at : ℕ) (z : List ℕ) → at < length z → (taken ≡ false → ends_run (drop at z) ≡ false) → next ≡ (not taken && (get_or z at 0 == 92)) → run_end taken at (drop at z) ≡ run_end next (at + 1) (drop (at + 1) z)
run_goes taken next at z h goes is =
    let here = drop_at z at h in
    ap (λ x. run_end taken at x) here ∙ run_step taken next at (get_or z at 0) (drop (at + 1) z) (λ e. ap ends_run (sym here) ∙ goes e) is

run_stop : (at b : ℕ) (z : List ℕ) → ends_run (b ∷ z) ≡ true → run_end false at (b ∷ z) ≡ at
run_stop at b z stops = rw stops refl

pub run_stops : (at : ℕ) (z : List ℕ) → at < length z → ends_run (drop at z) ≡ true → run_end false at (drop at z) ≡ at
run_stops at z h stops =
    let here = drop_at z at h in
    ap (λ x. run_end false at x) here ∙ run_stop at (get_or z at 0) (drop (at + 1) z) (ap ends_run (sym here) ∙ stops)

-- a text without a backslash ends at its first quote
plain_step : (at b : ℕ) (z : List ℕ) → is_byte2 39 92 b ≡ false → quoted_end false at (b ∷ z) ≡ quoted_end false (at + 1) z
plain_step at b z off =
    let parts = neither (b == 39) (b == 92) off in
    rw (parts.0, parts.1) refl

plain_from : (at i : ℕ) (z : List ℕ) → i < length z → ((k : ℕ) → k < i → is_byte2 39 92 (get_or z k 0) ≡ false) → get_or z i 0 ≡ 39 → quoted_end false at z ≡ Some (at + i + 1)
plain_from at i [] h before is = absurd (omega arith)
plain_from at zero (b ∷ z) h before is = rw is (ap Some (omega arith))
plain_from at (suc i) (b ∷ z) h before is =
    plain_step at b z (before 0 (omega arith)) ∙ plain_from (at + 1) i z (omega (arith, h)) (λ k low. before (suc k) (omega (arith, low))) is ∙ ap Some (omega arith)

behind_first : (z : List ℕ) (i : ℕ) → get_or (drop 1 z) i 0 ≡ get_or z (i + 1) 0
behind_first [] i = refl
behind_first (b ∷ z) i = rw (add-one) refl

pub quoted_plain : (z : List ℕ) (i : ℕ) → NoneBefore (Passes (is_byte2 39 92) (drop 1 z)) 0 (length (drop 1 z)) i → get_or z (i + 1) 0 ≡ 39 → quoted_end false 1 (drop 1 z) ≡ Some (i + 1 + 1)
quoted_plain z i first is = plain_from 1 i (drop 1 z) first.high (λ k low. is_no _ (first.before k (omega arith) low)) (behind_first z i ∙ is) ∙ ap Some (omega arith)
