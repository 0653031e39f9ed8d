-- Lists of arguments are the same where they are so member by member.
use Rattle.std.proofs.Common.{◌≡◌, List, ℕ, [], ◌∷◌, refl}
use Rattle.std.specs.Str.{bytes_eq}
use Rattle.std.specs.Cmp.Lexicographic.{pointwise}
use Rattle.pp_values.specs.Sort.{Sort, same_type, same_arguments, types_arguments, texts_arguments}

pub same_arguments-types_arguments : (xs ys : List Sort) → same_arguments (types_arguments xs) (types_arguments ys) ≡ pointwise same_type xs ys
same_arguments-types_arguments [] [] = refl
same_arguments-types_arguments [] (y ∷ ys) = refl
same_arguments-types_arguments (x ∷ xs) [] = refl
same_arguments-types_arguments (x ∷ xs) (y ∷ ys) = rw (same_arguments-types_arguments xs ys) refl

pub same_arguments-texts_arguments : (xs ys : List (List ℕ)) → same_arguments (texts_arguments xs) (texts_arguments ys) ≡ pointwise bytes_eq xs ys
same_arguments-texts_arguments [] [] = refl
same_arguments-texts_arguments [] (y ∷ ys) = refl
same_arguments-texts_arguments (x ∷ xs) [] = refl
same_arguments-texts_arguments (x ∷ xs) (y ∷ ys) = rw (same_arguments-texts_arguments xs ys) refl
