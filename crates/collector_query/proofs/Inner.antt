-- For the measure of a recursion: each query of a list is smaller than the list. And what a value says of its members.
use Rattle.std.proofs.Common.{◌≡◌, ℕ, zero, suc, ◌<◌, ◌||◌, List, [], ◌∷◌, length, get_or, arith, ap, refl}
use Rattle.std.specs.List.{list_any}
use Rattle.pp_values.specs.declared.value.Value.{Value}
use Rattle.pp_values.specs.Datum.{Datum}
use Rattle.pp_values.specs.Equal.{equal}
use Rattle.pp_values.specs.Views.{view, views}
use Rattle.res_core.specs.declared.query.Query.{Query}
use Rattle.res_core.specs.Criteria.{criterion_size, criterion_list_size}
use Rattle.res_core.specs.QueryViews.{criterion, criteria}

query_at_falls : (xs : List Query) (i : ℕ) (d : Query) → i < length xs → criterion_size (criterion (get_or xs i d)) < criterion_list_size (criteria xs)
query_at_falls [] i d h = absurd (omega arith)
query_at_falls (x ∷ xs) zero d h = omega arith
query_at_falls (x ∷ xs) (suc i) d h = let h' : i < length xs = omega arith in omega (arith, query_at_falls xs i d h')

pub query_falls : (xs : List Query) (i : ℕ) (x : Query) → i < length xs → x ≡ get_or xs i x → criterion_size (criterion x) < criterion_list_size (criteria xs)
query_falls xs i x h p = omega (arith, query_at_falls xs i x h, ap (λ y. criterion_size (criterion y)) p)

pub any_view : (d : Datum) (xs : List Value) → list_any (λ m. equal m d) (views xs) ≡ list_any (λ m. equal (view m) d) xs
any_view d [] = refl
any_view d (x ∷ xs) = ap (λ b. equal (view x) d || b) (any_view d xs)
