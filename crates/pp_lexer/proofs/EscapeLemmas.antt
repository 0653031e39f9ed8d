-- What a text says, by its backslashes.
use Rattle.std.proofs.Common.{◌≡◌, ◌≢◌, ℕ, zero, suc, ◌+◌, ◌-◌, ◌<◌, ◌≤◌, Bool, true, false, ◌||◌, ◌==◌, List, [], ◌∷◌, ◌++◌, length, drop, get_or, refl, ap, sym, subst, append-nil, ◌∙◌, length-drop, IsUtf8, arith}
use Rattle.std.proofs.Math.Dec.{eqb-suc-zero}
use Rattle.std.proofs.Math.Seq.{take-length, drop-length}
use Rattle.std.proofs.lemmas.Bool.{eqb-true}
use Rattle.std.proofs.lemmas.Str.{IsCharBoundary-after_ascii, IsCharBoundary-start}
use Rattle.std.specs.List.{list_any, position_or_len, before_first, after_first}
use Rattle.std.specs.Str.{IsCharBoundary}
use Rattle.pp_lexer.specs.Escapes.{said, escape, bytes_of, IsEscape, IsSplit}
use Rattle.pp_lexer.specs.declared.escapes.Escape.{Escape}
use Rattle.pp_lexer.specs.declared.escapes.Quotes.{Quotes}

-- past the bytes that an escape takes
said-drop : (q : Quotes) (n : ℕ) (z : List ℕ) → said q n z ≡ said q 0 (drop n z)
unfolding said
said-drop q zero z = refl
said-drop q (suc n) [] = refl
said-drop q (suc n) (b ∷ z) = said-drop q n z

-- by whether the first byte is a backslash
plain_cons : (q : Quotes) (t : Bool) (b : ℕ) (z : List ℕ) → (b == 92) ≡ t → said q 0 z ≡ before_first (λ b. b == 92) z ++ said q 0 (drop (position_or_len (λ b. b == 92) z) z) → said q 0 (b ∷ z) ≡ before_first (λ b. b == 92) (b ∷ z) ++ said q 0 (drop (position_or_len (λ b. b == 92) (b ∷ z)) (b ∷ z))
unfolding said
plain_cons q true b z is further = let here : position_or_len (λ b. b == 92) (b ∷ z) ≡ 0 = rw is refl in rw here refl
plain_cons q false b z is further =
    let n = position_or_len (λ b. b == 92) z in
    let here : position_or_len (λ b. b == 92) (b ∷ z) ≡ suc n = rw is (omega arith) in
    rw (here, is) (ap (λ s. b ∷ s) further)

-- What stands before the first backslash stays.
said_plain : (q : Quotes) (z : List ℕ) → said q 0 z ≡ before_first (λ b. b == 92) z ++ said q 0 (drop (position_or_len (λ b. b == 92) z) z)
said_plain q [] = unfold said in refl
said_plain q (b ∷ z) = plain_cons q (b == 92) b z refl (said_plain q z)

from_cons : (q : Bool) (b : ℕ) (z : List ℕ) → (b == 92) ≡ q → (position_or_len (λ b. b == 92) z < length z → drop (position_or_len (λ b. b == 92) z) z ≡ 92 ∷ after_first (λ b. b == 92) z) → position_or_len (λ b. b == 92) (b ∷ z) < length (b ∷ z) → drop (position_or_len (λ b. b == 92) (b ∷ z)) (b ∷ z) ≡ 92 ∷ after_first (λ b. b == 92) (b ∷ z)
from_cons true b z is further h = let here : position_or_len (λ b. b == 92) (b ∷ z) ≡ 0 = rw is refl in rw (here, eqb-true b 92 is) refl
from_cons false b z is further h =
    let n = position_or_len (λ b. b == 92) z in
    let here : position_or_len (λ b. b == 92) (b ∷ z) ≡ suc n = rw is (omega arith) in
    let next : suc n + 1 ≡ suc (n + 1) = omega arith in
    let within : n < length z = omega (arith, rw here at h) in
    rw (here, next) (further within)

-- from the first backslash on
drop_backslash : (z : List ℕ) → position_or_len (λ b. b == 92) z < length z → drop (position_or_len (λ b. b == 92) z) z ≡ 92 ∷ after_first (λ b. b == 92) z
drop_backslash [] h = absurd (omega arith)
drop_backslash (b ∷ z) h = from_cons (b == 92) b z refl (drop_backslash z) h

-- a text without a backslash says itself
pub said_none : (q : Quotes) (z : List ℕ) → position_or_len (λ b. b == 92) z ≡ length z → said q 0 z ≡ z
unfolding said
said_none q z none = said_plain q z ∙ rw (none, take-length z, drop-length z) (append-nil z)

-- from a backslash on
said_backslash : (q : Quotes) (behind : List ℕ) → said q 0 (92 ∷ behind) ≡ bytes_of (escape q behind).says ++ said q (escape q behind).taken behind
unfolding said
said_backslash q behind = refl

-- a text with a backslash says what stands before it, what it says, and what is left then
pub said_some : (q : Quotes) (z plain behind left : List ℕ) (e : Escape) → position_or_len (λ b. b == 92) z < length z → plain ≡ before_first (λ b. b == 92) z → behind ≡ after_first (λ b. b == 92) z → e ≡ escape q behind → e.taken ≤ length behind → left ≡ drop e.taken behind → IsSplit q z plain e left
said_some q z plain behind left e h before after is within rest =
    let here = ap (λ x. said q 0 x) (drop_backslash z h ∙ ap (λ x. 92 ∷ x) (sym after)) in
    let further = here ∙ said_backslash q behind ∙ ap (λ x. bytes_of x.says ++ said q x.taken behind) (sym is) ∙ ap (λ x. bytes_of e.says ++ x) (said-drop q e.taken behind ∙ ap (λ x. said q 0 x) (sym rest)) in
    record {
      says = said_plain q z ∙ rw (← before) (ap (λ x. plain ++ x) further);
      shorter = omega (arith, ap length rest, length-drop e.taken behind, ap length after, length-drop (position_or_len (λ b. b == 92) z + 1) z);
    }

-- a text may be cut behind an escape
pub boundary_behind : (z : List ℕ) (e : Escape) → IsUtf8 z → IsEscape z e → IsCharBoundary z e.taken
boundary_behind z e utf8 fits = boundary_at e.taken z utf8 fits.within fits.ascii
  where
    boundary_at : (n : ℕ) (z : List ℕ) → IsUtf8 z → n ≤ length z → (0 < n → get_or z (n - 1) 0 < 128) → IsCharBoundary z n
    boundary_at zero z utf8 within ascii = IsCharBoundary-start z utf8
    boundary_at (suc n) z utf8 within ascii =
        let e : suc n - 1 ≡ n = omega arith in
        let f : n + 1 ≡ suc n = omega arith in
        let some : 0 < suc n = omega arith in
        subst (IsCharBoundary z) f (IsCharBoundary-after_ascii z n utf8 (omega arith) (rw e at (ascii some)))

-- what begins without a backslash says something
says_first : (q : Quotes) (t : Bool) (b : ℕ) (z : List ℕ) → (b == 92) ≡ t → b ≢ 92 → (length (said q 0 (b ∷ z)) == 0) ≡ false
unfolding said
says_first q true b z is other = absurd (other (eqb-true b 92 is))
says_first q false b z is other = rw is (eqb-suc-zero (length (said q 0 z)))

pub plain_says : (q : Quotes) (z : List ℕ) → 0 < length z → get_or z 0 0 ≢ 92 → (length (said q 0 z) == 0) ≡ false
plain_says q [] some other = absurd (omega arith)
plain_says q (b ∷ z) some other = says_first q (b == 92) b z refl other

itself_step : (q : Quotes) (t : Bool) (b : ℕ) (z : List ℕ) → (b == 92) ≡ t → (t || list_any (λ b. b == 92) z) ≡ false → (list_any (λ b. b == 92) z ≡ false → said q 0 z ≡ z) → said q 0 (b ∷ z) ≡ b ∷ z
unfolding said
itself_step q true b z is none further = absurd (cc)
itself_step q false b z is none further = rw is (ap (λ s. b ∷ s) (further none))

-- a text in which no backslash stands says itself
pub says_itself : (q : Quotes) (z : List ℕ) → list_any (λ b. b == 92) z ≡ false → said q 0 z ≡ z
says_itself q [] none = unfold said in refl
says_itself q (b ∷ z) none = itself_step q (b == 92) b z refl none (says_itself q z)
