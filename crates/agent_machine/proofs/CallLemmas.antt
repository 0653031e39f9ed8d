-- What is left once all pieces are met.
use Rattle.std.proofs.Common.{◌≡◌, ℕ, ◌<◌, ◌≤◌, List, [], ◌∷◌, ◌++◌, length, refl, sym, ap, ◌∙◌, arith, append-nil}
use Rattle.std.specs.declared.cmp.Ordering.{Ordering}
use Rattle.std.specs.declared.cmp.Ordering.TheVariants.{Less, Equal}
use Rattle.pp_values.specs.Rising.{text_cmp}

module _ (pieces key other : List ℕ) (same : other ≡ key) where
  pub met_all : (rest : List ℕ) → ((more : List ℕ) → text_cmp (pieces ++ more) other ≡ text_cmp more rest) →
      text_cmp [] rest ≡ text_cmp pieces key
  met_all rest is = sym (is []) ∙ ap (λ p. text_cmp p other) (append-nil pieces) ∙ ap (text_cmp pieces) same

  pub met_apart : (order : Ordering) → ((more : List ℕ) → text_cmp (pieces ++ more) other ≡ order) →
      order ≡ text_cmp pieces key
  met_apart order is = sym (is []) ∙ ap (λ p. text_cmp p other) (append-nil pieces) ∙ ap (text_cmp pieces) same

pub shorter : (rest : List ℕ) → 1 ≤ length rest → Less ≡ text_cmp [] rest
shorter [] h = absurd (omega (arith, h))
shorter (x ∷ rest) h = refl

pub as_long : (rest : List ℕ) → length rest < 1 → Equal ≡ text_cmp [] rest
as_long [] h = refl
as_long (x ∷ rest) h = absurd (omega (arith, h))
