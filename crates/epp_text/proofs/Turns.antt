-- The pieces of a text, one after another.
use Rattle.std.proofs.Common.{◌≡◌, ℕ, zero, suc, ◌-◌, ◌<◌, Bool, List, [], ◌∷◌, ◌++◌, length, take, drop, refl, sym}
use Rattle.std.proofs.Common.{ap, subst, append_assoc, ◌∙◌, arith}
use Rattle.epp_text.specs.Fronts.{IsPart}
use Rattle.epp_text.specs.Pieces.{front_at, given_at, line_after, line_behind, piece, pieces_from, text_piece}
use Rattle.epp_text.specs.Seen.{Piece}
use Rattle.epp_text.specs.declared.front.Front.{Front}
use Rattle.epp_text.specs.declared.piece.PieceKind.TheVariants as kinds

-- past the bytes that are left of what stands before
pieces_pass : (n line : ℕ) (begins : Bool) (z : List ℕ)
    → pieces_from line begins n z ≡ pieces_from (line_behind line (take n z)) begins 0 (drop n z)
pieces_pass zero line begins z = refl
pieces_pass (suc n) line begins [] = refl
pieces_pass (suc n) line begins (b ∷ z) = pieces_pass n (line_after line b) begins z

-- past what stands at the front
pieces_turn : (line : ℕ) (begins : Bool) (z : List ℕ) (f : Front) → f ≡ front_at begins z → 0 < f.len → 0 < length z
    → pieces_from line begins 0 z
    ≡ given_at f z line ++ pieces_from (line_behind line (take f.len z)) f.begins 0 (drop f.len z)
pieces_turn line begins [] f is moves some = absurd (omega arith)
pieces_turn line begins (b ∷ z) f is moves some =
    let e : suc (f.len - 1) ≡ f.len = omega arith in
    let P : ℕ → Type 0 = λ n. pieces_from (line_after line b) f.begins (f.len - 1) z
    ≡ pieces_from (line_behind line (take n (b ∷ z))) f.begins 0 (drop n (b ∷ z)) in
    rw (← is) (ap (λ ps. given_at f (b ∷ z) line ++ ps)
    (subst P e (pieces_pass (suc (f.len - 1)) line f.begins (b ∷ z))))

-- a turn of the loop keeps what was found with what is left
pub found_turn : (line : ℕ) (begins : Bool) (z : List ℕ) (f : Front) (found more : List Piece) (here after : List ℕ)
    (line2 : ℕ) (begins2 : Bool)
    → f ≡ front_at begins z → IsPart z f → 0 < length z → here ≡ take f.len z → after ≡ drop f.len z
    → more ≡ found ++ given_at f z line → line2 ≡ line_behind line here → begins2 ≡ f.begins
    → more ++ pieces_from line2 begins2 0 after ≡ found ++ pieces_from line begins 0 z
found_turn line begins z f found more here after line2 begins2 is part some front rest put next_line next_begins =
    rw (put, next_line, next_begins, front, rest)
    (append_assoc found _ _ ∙ ap (λ ps. found ++ ps) (sym (pieces_turn line begins z f is part.moves some)))

-- a text is a piece where it is not empty
pub no_text : (text : List ℕ) (line : ℕ) → length text ≡ 0 → text_piece text line ≡ []
no_text [] line none = refl
no_text (b ∷ z) line none = absurd (omega arith)

pub some_text : (text : List ℕ) (line : ℕ) → 0 < length text → text_piece text line ≡ piece kinds.Text text line ∷ []
some_text [] line some = absurd (omega arith)
some_text (b ∷ z) line some = refl
