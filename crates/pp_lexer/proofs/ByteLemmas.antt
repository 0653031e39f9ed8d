-- How the definitions on bytes go on.
use Rattle.std.proofs.Common.{◌≡◌, ℕ, zero, suc, ◌+◌, ◌-◌, ◌<◌, ◌∙◌, ◌==◌, Bool, true, false, List, [], ◌∷◌, length, drop, refl, sym, subst, get_or, cond, arith}
use Rattle.std.proofs.lemmas.Bool.Decides.{nat_tests}
use Rattle.memchr.specs.Find.{Nowhere, NoneBefore, Passes, is_byte}
use Rattle.pp_lexer.specs.Bytes.{blank_len, line_end, meets_brace}

meets_brace-drop : (n : ℕ) (z : List ℕ) → meets_brace n z ≡ meets_brace 0 (drop n z)
meets_brace-drop zero z = refl
meets_brace-drop (suc n) [] = refl
meets_brace-drop (suc n) (b ∷ z) = meets_brace-drop n z

past_blank : (len b : ℕ) (z : List ℕ) → (len ≡ 0 → ⊥) → cond (len == 0) (b == 123) (meets_brace (len - 1) z) ≡ meets_brace 0 (drop len (b ∷ z))
past_blank zero b z some = absurd (some refl)
past_blank (suc len) b z some =
    let e : suc len - 1 ≡ len = omega arith in
    let no : (suc len == 0) ≡ false = grind (arith, nat_tests) in
    rw (no, e) (meets_brace-drop len z)

is_no : (p : Bool) → (p ≡ true → ⊥) → p ≡ false
is_no true not_so = absurd (not_so refl)
is_no false not_so = refl

line_of_more : (at b : ℕ) (z : List ℕ) → (b == 10) ≡ false → line_end at (b ∷ z) ≡ line_end (at + 1) z
line_of_more at b z no_end = rw no_end refl

-- a line that a line feed ends
line_ends_at : (at i : ℕ) (z : List ℕ) → i < length z → ((k : ℕ) → k < i → (get_or z k 0 == 10) ≡ false) → (get_or z i 0 == 10) ≡ true → line_end at z ≡ at + i + 1
line_ends_at at i [] h before is = absurd (omega arith)
line_ends_at at zero (b ∷ z) h before is = rw is (omega arith)
line_ends_at at (suc i) (b ∷ z) h before is =
    line_of_more at b z (before 0 (omega arith)) ∙ line_ends_at (at + 1) i z (omega (arith, h)) (λ k low. before (suc k) (omega (arith, low))) is ∙ omega arith

pub line_ends : (at i : ℕ) (z : List ℕ) → NoneBefore (Passes (is_byte 10) z) 0 (length z) i → Passes (is_byte 10) z i → line_end at z ≡ at + i + 1
line_ends at i z first is = line_ends_at at i z first.high (λ k low. is_no _ (first.before k (omega arith) low)) is

-- a line that the end of the file ends
line_without_end : (at : ℕ) (z : List ℕ) → ((k : ℕ) → k < length z → (get_or z k 0 == 10) ≡ false) → line_end at z ≡ at + length z
line_without_end at [] none = omega arith
line_without_end at (b ∷ z) none = line_of_more at b z (none 0 (omega arith)) ∙ line_without_end (at + 1) z (λ k low. none (suc k) (omega (arith, low))) ∙ omega arith

pub line_goes_on : (at : ℕ) (z : List ℕ) → Nowhere (Passes (is_byte 10) z) 0 (length z) → line_end at z ≡ at + length z
line_goes_on at z none = line_without_end at z (λ k low. is_no _ (none k (omega arith) low))

-- past white space or a comment
pub meets_brace_goes : (z : List ℕ) (len : ℕ) → 0 < length z → len ≡ blank_len z → (len ≡ 0 → ⊥) → meets_brace 0 (drop len z) ≡ meets_brace 0 z
meets_brace_goes [] len h is some = absurd (omega arith)
meets_brace_goes (b ∷ z) len h is some =
    let P : ℕ → Type 0 = λ n. meets_brace 0 (drop len (b ∷ z)) ≡ cond (n == 0) (b == 123) (meets_brace (n - 1) z) in
    subst P is (sym (past_blank len b z some))

-- at a token
pub meets_brace_stops : (z : List ℕ) (len : ℕ) → 0 < length z → len ≡ blank_len z → len ≡ 0 → meets_brace 0 z ≡ (get_or z 0 0 == 123)
meets_brace_stops [] len h is none = absurd (omega arith)
meets_brace_stops (b ∷ z) len h is none = rw (← is, none) refl
