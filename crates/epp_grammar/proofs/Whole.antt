-- The pieces of a text are those of the relation.
use Rattle.std.proofs.Common.{◌≡◌, ℕ, zero, suc, ◌+◌, ◌-◌, ◌<◌, Bool, true, List, [], ◌∷◌, ◌++◌, length, take, drop}
use Rattle.std.proofs.Common.{Option, refl, sym, ap, subst, ◌∙◌, arith}
use Rattle.std.proofs.lemmas.List.{length-append}
use Rattle.std.proofs.Math.Seq.{drop-append_seam, take-append_seam}
use Rattle.epp_text.specs.Pieces.{front, front_at, given, given_at, line_after, line_behind, pieces_from, pieces_of}
use Rattle.epp_text.specs.Seen.{Piece}
use Rattle.epp_text.specs.declared.front.Front.{Front}
use Rattle.epp_text.specs.declared.piece.PieceKind.{PieceKind}
use Rattle.epp_grammar.specs.Laws.{PiecesAreRead}
use Rattle.epp_grammar.specs.Texts.{ArePieces, AreFrom}
use Rattle.epp_grammar.proofs.Bytes.{same_front}
use Rattle.epp_grammar.proofs.Parts.{part_at, part_of}
use Rattle.epp_grammar.proofs.Tags.{IsAt}

-- past the bytes that are left of what stands before
pieces_pass : (n line : ℕ) (begins : Bool) (z : List ℕ)
    → pieces_from line begins n z ≡ pieces_from (line_behind line (take n z)) begins 0 (drop n z)
pieces_pass zero line begins z = refl
pieces_pass (suc n) line begins [] = refl
pieces_pass (suc n) line begins (b ∷ z) = pieces_pass n (line_after line b) begins z

-- past what stands at the front
pieces_turn : (line : ℕ) (begins : Bool) (z : List ℕ) (f : Front) → front_at begins z ≡ f → 0 < f.len → 0 < length z
    → pieces_from line begins 0 z
    ≡ given_at f z line ++ pieces_from (line_behind line (take f.len z)) f.begins 0 (drop f.len z)
pieces_turn line begins [] f is moves some = absurd (omega arith)
pieces_turn line begins (b ∷ z) f is moves some =
    let e : suc (f.len - 1) ≡ f.len = omega arith in
    let P : ℕ → Type 0 = λ n. pieces_from (line_after line b) f.begins (f.len - 1) z
    ≡ pieces_from (line_behind line (take n (b ∷ z))) f.begins 0 (drop n (b ∷ z)) in
    rw (is) (ap (λ ps. given_at f (b ∷ z) line ++ ps)
    (subst P e (pieces_pass (suc (f.len - 1)) line f.begins (b ∷ z))))

-- past a part
part_turn : (line : ℕ) (begins : Bool) (z : List ℕ) (kind : Option PieceKind) (text : List ℕ) (behind : Bool)
    (rest taken : List ℕ) → IsAt begins z kind text behind rest → z ≡ taken ++ rest
    → pieces_from line begins 0 z ≡ given kind text line ++ pieces_from (line_behind line taken) behind 0 rest
part_turn line begins z kind text behind rest taken a is =
    let same : a.taken ≡ taken = same_front a.taken taken rest (sym a.whole ∙ is) in
    let long : length z ≡ length a.taken + length rest = ap length a.whole ∙ length-append a.taken rest in
    let moves = a.moves in
    let here : take (length a.taken) z ≡ taken =
    ap (take (length a.taken)) a.whole ∙ (take-append_seam a.taken rest ∙ same) in
    let left : drop (length a.taken) z ≡ rest =
    ap (drop (length a.taken)) a.whole ∙ drop-append_seam a.taken rest in
    pieces_turn line begins z (front kind a.from a.to (length a.taken) behind) a.is moves (omega (arith, long, moves))
    ∙ (λ i. given kind (a.says i) line ++ pieces_from (line_behind line (here i)) behind 0 (left i))

-- what the relation says is what the function gives
pub only_pieces : {begins : Bool} {line : ℕ} {z : List ℕ} {ps : List Piece} → AreFrom begins line z ps
    → pieces_from line begins 0 z ≡ ps
only_pieces (AreFrom.none begins line) = refl
only_pieces (AreFrom.part begins behind line z taken rest text kind more is p left) =
    part_turn line begins z kind text behind rest taken (part_at begins z p) is
    ∙ ap (λ qs. given kind text line ++ qs) (only_pieces left)

-- and it says something of each text, which has fewer bytes than this
pub some_pieces : (n : ℕ) (begins : Bool) (line : ℕ) (z : List ℕ) → length z < n
    → AreFrom begins line z (pieces_from line begins 0 z)
some_pieces zero begins line z few = absurd (omega arith)
some_pieces (suc n) begins line [] few = AreFrom.none begins line
some_pieces (suc n) begins line (b ∷ z) few =
    let p = part_of begins b z in
    let a = part_at begins (b ∷ z) p.is in
    let long : length (b ∷ z) ≡ length a.taken + length p.rest =
    ap length a.whole ∙ length-append a.taken p.rest in
    let moves = a.moves in
    let left = some_pieces n p.behind (line_behind line a.taken) p.rest (omega (arith, long, moves)) in
    subst (AreFrom begins line (b ∷ z))
    (sym (part_turn line begins (b ∷ z) p.kind p.text p.behind p.rest a.taken a a.whole))
    (AreFrom.part begins p.behind line (b ∷ z) a.taken p.rest p.text p.kind _ a.whole p.is left)

pub pieces_are_read : PiecesAreRead
unfolding pieces_of
pieces_are_read text ps = (
  λ e. subst (ArePieces text) e (some_pieces (suc (length text)) true 1 text (omega arith)),
  only_pieces,
)
