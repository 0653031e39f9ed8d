-- The tokens of a text, piece by piece.
use Rattle.std.proofs.Math.Seq.{take-length}
use Rattle.std.proofs.lemmas.List.{take_all}
use Rattle.std.proofs.Common.{◌≡◌, ℕ, ℤ, zero, suc, ◌-◌, ◌<◌, ◌≤◌, List, [], ◌∷◌, ◌++◌, length, take, drop, refl, sym, ap, ◌∙◌, subst, append_assoc, length-take-le, get_or-take, arith}
use Rattle.pp_lexer.specs.Bytes.{line_after, line_at}
use Rattle.pp_lexer.specs.Digits.{number_said}
use Rattle.pp_lexer.specs.Fronts.{HasEnds, IsPart}
use Rattle.pp_lexer.specs.Modes.{mode_after, open_after}
use Rattle.pp_lexer.specs.Tokens.{front_at, emitted, tokens_from, token, number_token, piece}
use Rattle.pp_lexer.specs.declared.front.Found.TheVariants as found
use Rattle.pp_lexer.specs.declared.kind.Kind.TheVariants as kinds
use Rattle.pp_lexer.specs.declared.front.Front.{Front}
use Rattle.pp_lexer.specs.declared.mode.Mode.{Mode}
use Rattle.pp_lexer.specs.declared.mode.Open.{Open}
use Rattle.pp_lexer.specs.Seen.{Token}

-- past the bytes that are left of what stands before
tokens_pass : (n line : ℕ) (mode : Mode) (nest : List Open) (z : List ℕ) → tokens_from line mode nest n z ≡ tokens_from (line_at line (take n z)) mode nest 0 (drop n z)
tokens_pass zero line mode nest z = refl
tokens_pass (suc n) line mode nest [] = refl
tokens_pass (suc n) line mode nest (b ∷ z) = tokens_pass n (line_after line b) mode nest z

-- past what stands at the front
tokens_turn : (line : ℕ) (mode : Mode) (nest : List Open) (z : List ℕ) (f : Front) → f ≡ front_at mode nest z → 1 ≤ f.len → 0 < length z → tokens_from line mode nest 0 z ≡ emitted line f.found (take f.len z) ++ tokens_from (line_at line (take f.len z)) (mode_after f.found) (open_after f.found nest) 0 (drop f.len z)
tokens_turn line mode nest [] f is moves some = absurd (omega arith)
tokens_turn line mode nest (b ∷ z) f is moves some =
    let m = mode_after f.found in
    let o = open_after f.found nest in
    let e : suc (f.len - 1) ≡ f.len = omega arith in
    let P : ℕ → Type 0 = λ n. tokens_from (line_after line b) m o (f.len - 1) z ≡ tokens_from (line_at line (take n (b ∷ z))) m o 0 (drop n (b ∷ z)) in
    rw (← is) (ap (λ ts. emitted line f.found (take f.len (b ∷ z)) ++ ts) (subst P e (tokens_pass (suc (f.len - 1)) line m o (b ∷ z))))

-- a turn of the loop keeps what was found with what is left
pub found_turn : (line : ℕ) (mode : Mode) (nest : List Open) (z : List ℕ) (f : Front) (found more : List Token) (spelling after : List ℕ) (line2 : ℕ) (mode2 : Mode) (nest2 : List Open)
    → f ≡ front_at mode nest z → IsPart z f → 0 < length z → spelling ≡ take f.len z → after ≡ drop f.len z
    → more ≡ found ++ emitted line f.found spelling → line2 ≡ line_at line spelling → mode2 ≡ mode_after f.found → nest2 ≡ open_after f.found nest
    → more ++ tokens_from line2 mode2 nest2 0 after ≡ found ++ tokens_from line mode nest 0 z
found_turn line mode nest z f found more spelling after line2 mode2 nest2 is part some here rest put next_line next_mode next_nest =
    rw (put, next_line, next_mode, next_nest, here, rest) (append_assoc found _ _ ∙ ap (λ ts. found ++ ts) (sym (tokens_turn line mode nest z f is part.moves some)))

-- what is cut out keeps its ends
pub ends_cut : (z spelling : List ℕ) (f : Front) → IsPart z f → spelling ≡ take f.len z → HasEnds spelling f.found (length spelling)
ends_cut z spelling f part here =
    let within : f.len ≤ length z = part.boundary.0 in
    let len : length spelling ≡ f.len = ap length here ∙ length-take-le f.len z within in
    rw (len, here) (record {
      quotes = λ is. let q = part.ends.quotes is in record { two = q.two; opening = get_or-take f.len z 0 0 (omega (arith, q.two)) ∙ q.opening; closing = get_or-take f.len z (f.len - 1) 0 (omega (arith, q.two)) ∙ q.closing };
      dollar = λ k is. get_or-take f.len z 0 0 part.moves ∙ part.ends.dollar k is;
      number = λ n is. ap number_said (take_all f.len (take f.len z) (omega (arith, length-take-le f.len z within))) ∙ part.ends.number n is;
    })

pub some_cut : (z spelling : List ℕ) (f : Front) → IsPart z f → spelling ≡ take f.len z → 0 < length spelling
some_cut z spelling f part here = omega (arith, ap length here ∙ length-take-le f.len z part.boundary.0, part.moves)

-- a number that was found is the one that its spelling says
pub number_put : (n : ℤ) (line : ℕ) (z : List ℕ) → HasEnds z (found.Number n) (length z) → number_token (number_said z) line ≡ number_token n line
number_put n line z ends = ap (λ m. number_token m line) (ap number_said (sym (take-length z)) ∙ ends.number n refl)

-- a run of a text is a token where it says something
pub piece_none : (text : List ℕ) (line : ℕ) → length text ≡ 0 → piece text line ≡ []
piece_none [] line none = refl
piece_none (b ∷ z) line none = absurd (omega arith)

pub piece_some : (text : List ℕ) (line : ℕ) → 0 < length text → piece text line ≡ token kinds.Piece text line ∷ []
piece_some [] line some = absurd (omega arith)
piece_some (b ∷ z) line some = refl
