-- A piece of a text may be cut off.
use Rattle.std.proofs.Common.{◌≡◌, ℕ, ◌+◌, ◌-◌, ◌<◌, ◌≤◌, List, length, get_or, IsUtf8, subst, arith}
use Rattle.std.specs.Str.{IsCharBoundary}
use Rattle.std.proofs.lemmas.Str.{IsCharBoundary-after_ascii, IsCharBoundary-before_ascii}
use Rattle.pp_lexer.specs.Fronts.{IsPiece, IsPart, HasEnds, front}
use Rattle.pp_lexer.specs.Tokens.{found_in_place}
use Rattle.pp_lexer.specs.declared.front.Found.{Found}
use Rattle.pp_lexer.specs.declared.mode.Mode.{Mode}
use Rattle.pp_lexer.specs.declared.mode.Open.{Open}
use Rattle.pp_lexer.specs.declared.front.Found.TheVariants as found
use Rattle.pp_lexer.specs.declared.front.Front.{Front}

boundary_after : (z : List ℕ) (len : ℕ) → IsUtf8 z → 1 ≤ len → len ≤ length z → (len < length z → get_or z (len - 1) 0 < 128) → IsCharBoundary z len
boundary_after z len utf8 moves within last =
    let e : len - 1 + 1 ≡ len = omega arith in
    (within, λ more high. (subst (IsCharBoundary z) e (IsCharBoundary-after_ascii z (len - 1) utf8 (omega arith) (last more))).1 more high)

pub piece_is_part : (z : List ℕ) (f : Front) → IsUtf8 z → IsPiece z f → IsPart z f
piece_is_part z f utf8 piece = record { moves = piece.moves; boundary = boundary_after z f.len utf8 piece.moves piece.within piece.last; ends = piece.ends }

pub run_is_part : (z : List ℕ) (len : ℕ) → 0 < len → len ≤ length z → (len < length z → get_or z len 0 < 128) → IsPart z (front found.Run len)
run_is_part z len moves within next = record {
  moves = moves;
  boundary = (within, λ more high. (IsCharBoundary-before_ascii z len more (next more)).1 more high);
  ends = record { quotes = λ is. absurd (cc); dollar = λ k is. absurd (cc); number = λ n is. absurd (cc) };
}

-- What stands round a place changes marks alone, which have no ends to leave out.
ends_in_place : (mode : Mode) (nest : List Open) (behind z : List ℕ) (f : Found) (len : ℕ) → HasEnds z f len → HasEnds z (found_in_place mode nest behind f) len
ends_in_place mode nest behind z (found.Mark k) len ends = record { quotes = λ is. absurd (cc); dollar = λ k is. absurd (cc); number = λ n is. absurd (cc) }
ends_in_place mode nest behind z found.Blank len ends = ends
ends_in_place mode nest behind z found.CutOff len ends = ends
ends_in_place mode nest behind z (found.Word k) len ends = ends
ends_in_place mode nest behind z (found.Dollar k) len ends = ends
ends_in_place mode nest behind z (found.Number n) len ends = ends
ends_in_place mode nest behind z found.Quoted len ends = ends
ends_in_place mode nest behind z found.Run len ends = ends

pub in_place_is_part : (mode : Mode) (nest : List Open) (behind z : List ℕ) (f whole : Front) (g : Found) → IsUtf8 z → IsPiece z f → g ≡ found_in_place mode nest behind f.found → whole ≡ front g f.len → IsPart z whole
in_place_is_part mode nest behind z f whole g utf8 piece is made =
    let part = piece_is_part z f utf8 piece in
    rw (made, is) (record { moves = part.moves; boundary = part.boundary; ends = ends_in_place mode nest behind z f.found f.len part.ends })
