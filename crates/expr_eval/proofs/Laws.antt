-- A result that decides makes all further ones count for nothing.
use Rattle.std.proofs.Common.{◌≡◌, Bool, true, false, not, ◌&&◌, ◌||◌, List, [], ◌∷◌, ◌++◌, cond, refl, ap, ◌∙◌, sym}
use Rattle.std.specs.List.{list_all, list_any}
use Rattle.pp_values.specs.Datum.{Datum, flag}
use Rattle.expr_eval.specs.declared.functions.Iteration.{Iteration}
use Rattle.expr_eval.specs.declared.functions.Iteration.TheVariants as iteration
use Rattle.expr_eval.specs.Gathering.{gathered, decides}
use Rattle.expr_eval.specs.Truth.{is_true}

any_stops : (rs : List Datum) (r : Datum) (more : List Datum) → is_true r ≡ true →
    list_any is_true (rs ++ r ∷ more) ≡ list_any is_true (rs ++ r ∷ [])
any_stops [] r more h = rw h refl
any_stops (x ∷ rs) r more h = ap (λ b. is_true x || b) (any_stops rs r more h)

all_stops : (rs : List Datum) (r : Datum) (more : List Datum) → is_true r ≡ false →
    list_all is_true (rs ++ r ∷ more) ≡ list_all is_true (rs ++ r ∷ [])
all_stops [] r more h = rw h refl
all_stops (x ∷ rs) r more h = ap (λ b. is_true x && b) (all_stops rs r more h)

not_true : (b : Bool) → not b ≡ true → b ≡ false
not_true true h = absurd cc
not_true false h = refl

pub decided : (i : Iteration) (d : Datum) (rs : List Datum) (r : Datum) (more : List Datum) → decides i r ≡ true →
    gathered i d (rs ++ r ∷ more) ≡ gathered i d (rs ++ r ∷ [])
decided iteration.Each d rs r more h = absurd cc
decided iteration.Map d rs r more h = absurd cc
decided iteration.Filter d rs r more h = absurd cc
decided iteration.Any d rs r more h = ap (λ b. flag b) (any_stops rs r more h)
decided iteration.All d rs r more h = ap (λ b. flag b) (all_stops rs r more (not_true (is_true r) h))
