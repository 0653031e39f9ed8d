-- A text with a space in the place of each line feed, made piece by piece.
use Rattle.std.proofs.Common.{◌≡◌, ◌≢◌, ℕ, zero, suc, ◌<◌, List, [], ◌∷◌, ◌++◌, map, length, get_or, refl, ap, sym, ◌∙◌, arith, append_assoc}
use Rattle.std.proofs.lemmas.List.{map-append}
use Rattle.std.proofs.lemmas.Bool.Decides.{nat_tests}
use Rattle.site_docs.specs.FaultText.{in_line}

in_line_other : (b : ℕ) → b ≢ 10 → in_line b ≡ b
in_line_other b other = grind (arith, nat_tests)

-- a text without a line feed stays
pub in_line_whole : (bs : List ℕ) → ((i : ℕ) → i < length bs → get_or bs i 0 ≢ 10) → map in_line bs ≡ bs
in_line_whole [] lacks = refl
in_line_whole (b ∷ bs) lacks =
    ap (λ x. x ∷ map in_line bs) (in_line_other b (lacks zero (omega arith)))
    ∙ ap (λ xs. b ∷ xs) (in_line_whole bs (λ i lt. lacks (suc i) (omega arith)))

-- the piece up to a line feed was written, and a space
pub in_line_more : (old one two rest piece after whole : List ℕ) →
    one ≡ old ++ piece → two ≡ one ++ (32 ∷ []) →
    (rest ≡ piece ++ (10 ∷ after)) × ((i : ℕ) → i < length piece → get_or piece i 0 ≢ 10) →
    old ++ map in_line rest ≡ whole → two ++ map in_line after ≡ whole
in_line_more old one two rest piece after whole first second parts held =
    ap (λ x. x ++ map in_line after) (second ∙ ap (λ x. x ++ (32 ∷ [])) first)
    ∙ append_assoc (old ++ piece) (32 ∷ []) (map in_line after)
    ∙ append_assoc old piece (32 ∷ map in_line after)
    ∙ ap (λ x. old ++ x) (sym (ap (map in_line) parts.0 ∙ map-append in_line piece (10 ∷ after)
    ∙ ap (λ x. x ++ (32 ∷ map in_line after)) (in_line_whole piece parts.1)))
    ∙ held
