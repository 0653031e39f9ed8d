-- Arguments, gone through one after another.
use Rattle.std.proofs.Common.{◌≡◌, ◌<◌, ◌+◌, ℕ, zero, suc, Option, None, Some, option_map, List, [], ◌∷◌, ◌++◌, append_assoc, drop, length, get_or, refl, ap, sym, ◌∙◌, add-one, arith}
use Rattle.pp_values.specs.declared.value.Value.{Value}
use Rattle.pp_types.specs.Arguments.{followed}

pub none_before : {A : Type 0} (o : Option (List A)) → o ≡ option_map (λ r. [] ++ r) o
none_before None = refl
none_before (Some r) = refl

pub one_more : {A : Type 0} (xs : List A) (x : A) (o : Option (List A)) → option_map
    (λ r. xs ++ r) (followed (Some x) o) ≡ option_map (λ r. (xs ++ x ∷ []) ++ r) o
one_more xs x None = refl
one_more {A} xs x (Some r) = ap (λ l. let some : Option (List A) = Some l in some) (sym (append_assoc xs (x ∷ []) r))

value_at : (xs : List Value) (i : ℕ) (d : Value) → i < length xs → drop i xs ≡ get_or xs i d ∷ drop (suc i) xs
value_at [] i d h = absurd (omega arith)
value_at (x ∷ xs) zero d h = refl
value_at (x ∷ xs) (suc i) d h = let h' : i < length xs = omega arith in value_at xs i d h'

pub from_index : (xs : List Value) (i : ℕ) (x : Value) → i < length xs → x ≡ get_or xs i x → drop i xs ≡ x
    ∷ drop (i + 1) xs
from_index xs i x h e = rw add-one (value_at xs i x h ∙ ap (λ y. y ∷ drop (suc i) xs) (sym e))
