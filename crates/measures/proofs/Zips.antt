-- Two lists side by side.
use Rattle.std.proofs.Common.{◌≡◌, zero, suc, List, [], ◌∷◌, length, All, refl, arith}
use Rattle.std.specs.List.{AllZip}

module _ {A B : Type 0} (R : A → B → Type 0) where
  pub zip_length : (xs : List A) (ys : List B) → AllZip R xs ys → length ys ≡ length xs
  zip_length [] [] z = refl
  zip_length [] (y ∷ ys) z = absurd z
  zip_length (x ∷ xs) [] z = absurd z
  zip_length (x ∷ xs) (y ∷ ys) z = omega (arith, zip_length xs ys z.1)

  -- what follows of each item of the second list from its neighbour in the first
  pub zip_all : (P : A → Type 0) (Q : B → Type 0) → ((x : A) (y : B) → P x → R x y → Q y) → (xs : List A) (ys : List B) → All P xs → AllZip R xs ys → All Q ys
  zip_all P Q f [] [] a z k d lt = absurd (omega arith)
  zip_all P Q f [] (y ∷ ys) a z k d lt = absurd z
  zip_all P Q f (x ∷ xs) [] a z k d lt = absurd z
  zip_all P Q f (x ∷ xs) (y ∷ ys) a z zero d lt = f x y (a 0 x (omega arith)) z.0
  zip_all P Q f (x ∷ xs) (y ∷ ys) a z (suc k) d lt = zip_all P Q f xs ys (λ i e l. a (suc i) e (omega arith)) z.1 k d (omega arith)
