-- Where a text is cut at a byte.
use Rattle.std.proofs.Common.{◌≡◌, ◌≢◌, ℕ, zero, suc, ◌<◌, ◌==◌, Bool, true, false, ◌||◌, if◌then◌else◌, List, [], ◌∷◌, ◌++◌, length, get_or, Option, Some, None, option_map, refl, sym, ap, ◌∙◌, arith}
use Rattle.std.proofs.lemmas.Bool.{eq-eqb, eqb-true, ne_eqb, or_parts}
use Rattle.std.proofs.lemmas.Str.Pattern.{IsSplitOnceResult, split_parts}
use Rattle.std.specs.Borrow.{Bor}
use Rattle.json_documents.specs.LinesOfText.{cut_at, has_byte}

pub split_here : (c : ℕ) (xs ys : List ℕ) → has_byte c xs ≡ false → cut_at c (xs ++ c ∷ ys) ≡ Some (xs, ys)
split_here c [] ys h = rw (eq-eqb c c refl) refl
split_here c (x ∷ xs) ys h =
    let parts = or_parts (x == c) _ h in
    rw parts.0 (ap (option_map (λ p. (x ∷ p.0, p.1))) (split_here c xs ys parts.1))

pub not_here : (c : ℕ) (bs : List ℕ) → has_byte c bs ≡ false → cut_at c bs ≡ None
not_here c [] h = refl
not_here c (x ∷ xs) h =
    let parts = or_parts (x == c) _ h in rw parts.0 (ap (option_map (λ p. (x ∷ p.0, p.1))) (not_here c xs parts.1))

-- what is cut is the text, and no c stands before the first one
abbrev pub IsCut : ℕ → List ℕ → Option (List ℕ × List ℕ) → Type 0
IsCut c bs None = has_byte c bs ≡ false
IsCut c bs (Some p) = (bs ≡ p.0 ++ c ∷ p.1) × (has_byte c p.0 ≡ false)

one_more : (c b : ℕ) (bs : List ℕ) → (b == c) ≡ false → (o : Option (List ℕ × List ℕ)) → IsCut c bs o →
    IsCut c (b ∷ bs) (option_map (λ p. (b ∷ p.0, p.1)) o)
one_more c b bs e None h = ap (λ t. t || has_byte c bs) e ∙ h
one_more c b bs e (Some p) h = (ap (λ xs. b ∷ xs) h.0, ap (λ t. t || has_byte c p.0) e ∙ h.1)

pub is_cut : (c : ℕ) (bs : List ℕ) → IsCut c bs (cut_at c bs)
is_cut c [] = refl
is_cut c (b ∷ bs) =
    elim (b == c) as (λ t. (b == c) ≡ t →
    IsCut c (b ∷ bs) (if t then Some ([], bs) else option_map (λ p. (b ∷ p.0, p.1)) (cut_at c bs))) [
      | true ↦ λ e. (ap (λ z. z ∷ bs) (eqb-true b c e), refl)
      | false ↦ λ e. one_more c b bs e (cut_at c bs) (is_cut c bs)
    ] refl

pub lacks_byte : (c : ℕ) (bs : List ℕ) → ((i : ℕ) → i < length bs → get_or bs i 0 ≢ c) → has_byte c bs ≡ false
lacks_byte c [] h = refl
lacks_byte c (b ∷ bs) h =
    rw (ne_eqb b c (h zero (omega arith))) (lacks_byte c bs (λ i lt. h (suc i) (omega arith)))

-- what `split_once` at an ASCII character gives
pub split_once_cuts : (c : ℕ) (bs : List ℕ) (r : Option (Bor (List ℕ) × Bor (List ℕ))) → IsSplitOnceResult c bs r →
    c < 128 → option_map (λ p. (p.0.now, p.1.now)) r ≡ cut_at c bs
split_once_cuts c bs None h small = sym (not_here c bs (lacks_byte c bs (split_parts c bs None h small)))
split_once_cuts c bs (Some x) h small =
    let parts = split_parts c bs (Some x) h small in
    sym (ap (cut_at c) parts.0 ∙ split_here c x.0.now x.1.now (lacks_byte c x.0.now parts.1))

pub has_append : (c : ℕ) (xs ys : List ℕ) → has_byte c xs ≡ false → has_byte c ys ≡ false → has_byte c (xs ++ ys) ≡ false
has_append c [] ys h k = k
has_append c (x ∷ xs) ys h k =
    let parts = or_parts (x == c) _ h in rw parts.0 (has_append c xs ys parts.1 k)

pub or_right : (a b : Bool) → b ≡ true → (a || b) ≡ true
or_right true b e = refl
or_right false b e = e

-- behind anything
pub has_later : (c : ℕ) (xs ys : List ℕ) → has_byte c (xs ++ c ∷ ys) ≡ true
has_later c [] ys = rw (eq-eqb c c refl) refl
has_later c (x ∷ xs) ys = or_right (x == c) _ (has_later c xs ys)
