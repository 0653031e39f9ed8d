-- A text without the bracket at its end.
use Rattle.std.proofs.Common.{◌≡◌, ◌≢◌, ℕ, ◌-◌, ◌+◌, ◌==◌, true, false, if◌then◌else◌, List, [], ◌∷◌, ◌++◌, length, take, Option, Some, None, option_map, refl, sym, ap, ◌∙◌, arith}
use Rattle.std.proofs.lemmas.Bool.{eqb-true}
use Rattle.std.proofs.lemmas.Str.Pattern.{strip_suffix_char}
use Rattle.std.specs.Borrow.{Bor}
use Rattle.std.specs.Option.{MatchOption}
use Rattle.std.specs.Str.Pattern.{FindsCharSuffix}
use Rattle.agent_docs.specs.ReportReading.{unclosed}
use Rattle.agent_docs.proofs.ReportsRead.{unclosed_back}

abbrev IsUnclosed : List ℕ → Option (List ℕ) → Type 0
IsUnclosed bs None = (front : List ℕ) → bs ≢ front ++ 93 ∷ []
IsUnclosed bs (Some t) = bs ≡ t ++ 93 ∷ []

none_of : (bs : List ℕ) → ((front : List ℕ) → bs ≢ front ++ 93 ∷ []) → unclosed bs ≡ None
none_of [] h = refl
none_of (b ∷ []) h =
    elim (b == 93) as (λ t. (b == 93) ≡ t → ◌≡◌ {A = Option (List ℕ)} (if t then Some [] else None) None) [
      | true ↦ λ e. absurd (h [] (ap (λ x. x ∷ []) (eqb-true b 93 e)))
      | false ↦ λ e. refl
    ] refl
none_of (b ∷ c ∷ cs) h =
    ap (option_map (λ t. b ∷ t)) (none_of (c ∷ cs) (λ front e. h (b ∷ front) (ap (λ xs. b ∷ xs) e)))

-- what is left, where the text ends so, is told by the text
one_answer : (bs : List ℕ) (o : Option (List ℕ)) → IsUnclosed bs o → o ≡ unclosed bs
one_answer bs (Some t) h = sym (ap unclosed h ∙ unclosed_back t)
one_answer bs None h = sym (none_of bs h)

shown_option : (bs : List ℕ) (r : Option (Bor (List ℕ))) →
    MatchOption r ((front : List ℕ) → bs ≢ front ++ 93 ∷ []) (λ x. bs ≡ x.now ++ 93 ∷ []) →
    IsUnclosed bs (option_map (λ x. x.now) r)
shown_option bs None h = h
shown_option bs (Some x) h = h

pub stripped : (bs : List ℕ) (r : Option (Bor (List ℕ))) →
    MatchOption r (FindsCharSuffix 93 bs None)
    (λ x. (n : ℕ) × FindsCharSuffix 93 bs (Some n) × (x.now ≡ take (length bs - n) bs) × (length x.now + n ≡ length bs)) →
    option_map (λ x. x.now) r ≡ unclosed bs
stripped bs r h = one_answer bs (option_map (λ x. x.now) r) (shown_option bs r (strip_suffix_char 93 bs r h (omega arith)))
