-- The pieces of a text, one after another.
use Rattle.std.proofs.Common.{◌≡◌, ℕ, zero, suc, ◌<◌, true, false, if◌then◌else◌, nat_eq, List, [], ◌∷◌, ◌++◌, length, drop, Option, Some, None, option_map, refl, ap, sym, ◌∙◌, arith, codes, length-drop}
use Rattle.std.specs.List.{starts_with}
use Rattle.hiera_config.specs.declared.interpolation.Piece.{Piece}
use Rattle.hiera_config.specs.declared.interpolation.Piece.TheVariants as piece
use Rattle.hiera_config.specs.Cuts.{Cut, longer, cut_at, trimmed}
use Rattle.hiera_config.specs.Pieces.{Form, variable, looked_up, said, alias, unlawful, form_pieces, closed_pieces, opened_pieces, pieces_from, pieces_by}
use Rattle.hiera_config.specs.Written.{piece_in, goes_on}

-- ---- what is behind a mark is shorter

behind_of : Option Cut → List ℕ
behind_of None = []
behind_of (Some c) = c.1

later : (mark : List ℕ) (b : ℕ) (bs : List ℕ) (c : Cut)
    → ((d : Cut) → cut_at mark bs ≡ Some d → length d.1 < length bs) → (o : Option Cut) → cut_at mark bs ≡ o
    → option_map (longer b) o ≡ Some c → length c.1 < length (b ∷ bs)
unfolding behind_of
later mark b bs c shorter None is h = absurd (cc h)
later mark b bs c shorter (Some d) is h = let same : d.1 ≡ c.1 = ap behind_of h in
    omega (arith, ap length same, shorter d is)

pub cut_shorter : (mark s : List ℕ) (c : Cut) → 0 < length mark → cut_at mark s ≡ Some c → length c.1 < length s
unfolding cut_at behind_of
cut_shorter mark [] c full e = absurd (cc e)
cut_shorter mark (b ∷ bs) c full e =
    elim (starts_with nat_eq (b ∷ bs) mark) as
    (λ t. (if t then Some ([], drop (length mark) (b ∷ bs)) else option_map (longer b) (cut_at mark bs)) ≡ Some c
    → length c.1 < length (b ∷ bs)) [
      | true ↦ λ h. let is : drop (length mark) (b ∷ bs) ≡ c.1 = ap behind_of h in
          omega (arith, ap length is, length-drop (length mark) (b ∷ bs))
      | false ↦ λ h. later mark b bs c (λ d is. cut_shorter mark bs d full is) (cut_at mark bs) refl h
    ] e

pub two_shorter : (t : List ℕ) (c d : Cut) → Some c ≡ cut_at (codes "%{") t → Some d ≡ cut_at (codes "}") c.1
    → length d.1 < length t
two_shorter t c d e g =
    let first : length c.1 < length t = cut_shorter (codes "%{") t c (omega arith) (sym e) in
    let second : length d.1 < length c.1 = cut_shorter (codes "}") c.1 d (omega arith) (sym g) in
    omega arith

-- ---- more turns than bytes are as good as any other number of these

module _ (form : List ℕ → Form) where
  same_rest : (go go' : List ℕ → List Piece) (behind rest : List ℕ) (f : Form) → go rest ≡ go' rest
      → form_pieces go behind rest f ≡ form_pieces go' behind rest f
  same_rest go go' behind rest (variable n) e = ap (λ ps. piece.Reads n ∷ ps) e
  same_rest go go' behind rest (looked_up k) e = ap (λ ps. piece.Asks k ∷ ps) e
  same_rest go go' behind rest (said t) e = ap (λ ps. piece.Letters t ∷ ps) e
  same_rest go go' behind rest (alias k) e = refl
  same_rest go go' behind rest unlawful e = refl

  same_closed : (go go' : List ℕ → List Piece) (behind : List ℕ) (o : Option Cut) → cut_at (codes "}") behind ≡ o
      → ((r : List ℕ) → length r < length behind → go r ≡ go' r)
      → closed_pieces form go behind o ≡ closed_pieces form go' behind o
  same_closed go go' behind None is each = refl
  same_closed go go' behind (Some d) is each =
      same_rest go go' behind d.1 (form (trimmed d.0)) (each d.1 (cut_shorter (codes "}") behind d (omega arith) is))

  same_opened : (go go' : List ℕ → List Piece) (t : List ℕ) (o : Option Cut) → cut_at (codes "%{") t ≡ o
      → ((r : List ℕ) → length r < length t → go r ≡ go' r) → opened_pieces form go t o ≡ opened_pieces form go' t o
  same_opened go go' t None is each = refl
  same_opened go go' t (Some c) is each =
      let shorter : length c.1 < length t = cut_shorter (codes "%{") t c (omega arith) is in
      ap (λ ps. piece.Letters c.0 ∷ ps)
      (same_closed go go' c.1 (cut_at (codes "}") c.1) refl (λ r h. each r (omega arith)))

  same_turns : (n m : ℕ) (t : List ℕ) → length t < n → length t < m → pieces_from form n t ≡ pieces_from form m t
  unfolding pieces_from
  same_turns zero m t h k = absurd (omega arith)
  same_turns (suc n) zero t h k = absurd (omega arith)
  same_turns (suc n) (suc m) t h k =
      same_opened (pieces_from form n) (pieces_from form m) t (cut_at (codes "%{") t) refl
      (λ r s. same_turns n m r (omega arith) (omega arith))

  pub turns_suffice : (n : ℕ) (t : List ℕ) → length t < n → pieces_from form n t ≡ pieces_by form t
  turns_suffice n t h = same_turns n (suc (length t)) t h (omega arith)

  -- ---- a text without `%{`, and one with it

  pub pieces_whole : (t : List ℕ) → None ≡ cut_at (codes "%{") t → pieces_by form t ≡ piece.Letters t ∷ []
  unfolding pieces_from
  pieces_whole t e = ap (opened_pieces form (pieces_from form (length t)) t) (sym e)

  pieces_opened : (t : List ℕ) (c : Cut) → cut_at (codes "%{") t ≡ Some c
      → pieces_by form t ≡ piece.Letters c.0 ∷ closed_pieces form (pieces_by form) c.1 (cut_at (codes "}") c.1)
  unfolding pieces_from
  pieces_opened t c e =
      let shorter : length c.1 < length t = cut_shorter (codes "%{") t c (omega arith) e in
      ap (opened_pieces form (pieces_from form (length t)) t) e
      ∙ ap (λ ps. piece.Letters c.0 ∷ ps)
      (same_closed (pieces_from form (length t)) (pieces_by form) c.1 (cut_at (codes "}") c.1) refl
      (λ r h. same_turns (length t) (suc (length r)) r (omega arith) (omega arith)))

  pub pieces_unclosed : (t : List ℕ) (c : Cut) → Some c ≡ cut_at (codes "%{") t → None ≡ cut_at (codes "}") c.1
      → pieces_by form t ≡ piece.Letters c.0 ∷ piece.Broken (codes "%{" ++ c.1) ∷ []
  pieces_unclosed t c e f =
      pieces_opened t c (sym e) ∙ ap (λ o. piece.Letters c.0 ∷ closed_pieces form (pieces_by form) c.1 o) (sym f)

  pieces_closed : (t : List ℕ) (c d : Cut) (f : Form) → Some c ≡ cut_at (codes "%{") t
      → Some d ≡ cut_at (codes "}") c.1 → f ≡ form (trimmed d.0)
      → pieces_by form t ≡ piece.Letters c.0 ∷ form_pieces (pieces_by form) c.1 d.1 f
  pieces_closed t c d f e g is =
      pieces_opened t c (sym e) ∙ ap (λ o. piece.Letters c.0 ∷ closed_pieces form (pieces_by form) c.1 o) (sym g)
      ∙ ap (λ x. piece.Letters c.0 ∷ form_pieces (pieces_by form) c.1 d.1 x) (sym is)

  form_more : (behind rest : List ℕ) (f : Form) → goes_on f ≡ true
      → form_pieces (pieces_by form) behind rest f ≡ piece_in behind f ∷ pieces_by form rest
  form_more behind rest (variable n) h = refl
  form_more behind rest (looked_up k) h = refl
  form_more behind rest (said t) h = refl
  form_more behind rest (alias k) h = absurd (cc h)
  form_more behind rest unlawful h = absurd (cc h)

  form_last : (behind rest : List ℕ) (f : Form) → goes_on f ≡ false
      → form_pieces (pieces_by form) behind rest f ≡ piece_in behind f ∷ []
  form_last behind rest (variable n) h = absurd (cc h)
  form_last behind rest (looked_up k) h = absurd (cc h)
  form_last behind rest (said t) h = absurd (cc h)
  form_last behind rest (alias k) h = refl
  form_last behind rest unlawful h = refl

  pub pieces_more : (t : List ℕ) (c d : Cut) (f : Form) → Some c ≡ cut_at (codes "%{") t
      → Some d ≡ cut_at (codes "}") c.1 → f ≡ form (trimmed d.0) → goes_on f ≡ true
      → pieces_by form t ≡ piece.Letters c.0 ∷ piece_in c.1 f ∷ pieces_by form d.1
  pieces_more t c d f e g is on =
      pieces_closed t c d f e g is ∙ ap (λ ps. piece.Letters c.0 ∷ ps) (form_more c.1 d.1 f on)

  pub pieces_last : (t : List ℕ) (c d : Cut) (f : Form) → Some c ≡ cut_at (codes "%{") t
      → Some d ≡ cut_at (codes "}") c.1 → f ≡ form (trimmed d.0) → goes_on f ≡ false
      → pieces_by form t ≡ piece.Letters c.0 ∷ piece_in c.1 f ∷ []
  pieces_last t c d f e g is off =
      pieces_closed t c d f e g is ∙ ap (λ ps. piece.Letters c.0 ∷ ps) (form_last c.1 d.1 f off)

-- ---- two pieces more

pub two_more : (ps : List Piece) (a b : Piece) (rest : List Piece)
    → ((ps ++ a ∷ []) ++ b ∷ []) ++ rest ≡ ps ++ (a ∷ b ∷ rest)
two_more [] a b rest = refl
two_more (p ∷ ps) a b rest = ap (λ (l : List Piece). p ∷ l) (two_more ps a b rest)

pub two_last : (ps : List Piece) (a b : Piece) → (ps ++ a ∷ []) ++ b ∷ [] ≡ ps ++ (a ∷ b ∷ [])
two_last [] a b = refl
two_last (p ∷ ps) a b = ap (λ (l : List Piece). p ∷ l) (two_last ps a b)
