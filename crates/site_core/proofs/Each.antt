-- For callers: what holds of each member of a list holds of its parts.
use Rattle.std.proofs.Common.{List, [], ◌∷◌, ◌++◌}
use Rattle.site_core.specs.Each.{Each}

module _ {A : Type 0} where
  pub each_map : (P Q : A → Type 0) → ((x : A) → P x → Q x) → (xs : List A) → Each P xs → Each Q xs
  each_map P Q f [] each = tt
  each_map P Q f (x ∷ xs) each = (f x each.0, each_map P Q f xs each.1)

  pub each_front : (P : A → Type 0) (xs ys : List A) → Each P (xs ++ ys) → Each P xs
  each_front P [] ys each = tt
  each_front P (x ∷ xs) ys each = (each.0, each_front P xs ys each.1)

  pub each_back : (P : A → Type 0) (xs ys : List A) → Each P (xs ++ ys) → Each P ys
  each_back P [] ys each = each
  each_back P (x ∷ xs) ys each = each_back P xs ys each.1

  pub each_end : (P : A → Type 0) (xs : List A) (y : A) (ys : List A) → Each P (xs ++ y ∷ ys) → P y
  each_end P [] y ys each = each.0
  each_end P (x ∷ xs) y ys each = each_end P xs y ys each.1
