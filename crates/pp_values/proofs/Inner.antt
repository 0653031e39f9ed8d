-- For the measure of a recursion: each type and value of a list is smaller than the list.
use Rattle.std.proofs.Common.{◌≡◌, ℕ, zero, suc, ◌+◌, ◌<◌, List, [], ◌∷◌, length, get_or, arith, ap}
use Rattle.pp_values.specs.declared.ptype.PType.{PType}
use Rattle.pp_values.specs.declared.value.Value.{Value}
use Rattle.pp_values.specs.Sort.{Sort, sort_size, sorts_size}
use Rattle.pp_values.specs.PTypes.{sort, sorts}
use Rattle.pp_values.specs.Datum.{Datum, Pair}
use Rattle.pp_values.specs.Sizes.{datum_size, data_size, pairs_size}
use Rattle.pp_values.specs.Views.{view, views, pair_views}

sort_at_falls : (xs : List PType) (i : ℕ) (d : PType) → i < length xs → sort_size (sort (get_or xs i d)) < sorts_size (sorts xs)
sort_at_falls [] i d h = absurd (omega arith)
sort_at_falls (x ∷ xs) zero d h = omega arith
sort_at_falls (x ∷ xs) (suc i) d h = let h' : i < length xs = omega arith in omega (arith, sort_at_falls xs i d h')

pub type_falls : (xs : List PType) (ss : List Sort) (i : ℕ) (x : PType) → sorts xs ≡ ss → i < length xs → x ≡ get_or xs i x → sort_size (sort x) < sorts_size ss
type_falls xs ss i x e h p = omega (arith, sort_at_falls xs i x h, ap sorts_size e, ap (λ y. sort_size (sort y)) p)

datum_at_falls : (xs : List Value) (i : ℕ) (d : Value) → i < length xs → datum_size (view (get_or xs i d)) < data_size (views xs)
datum_at_falls [] i d h = absurd (omega arith)
datum_at_falls (x ∷ xs) zero d h = omega arith
datum_at_falls (x ∷ xs) (suc i) d h = let h' : i < length xs = omega arith in omega (arith, datum_at_falls xs i d h')

pub item_falls : (xs : List Value) (ds : List Datum) (i : ℕ) (x : Value) → views xs ≡ ds → i < length xs → x ≡ get_or xs i x → datum_size (view x) < data_size ds
item_falls xs ds i x e h p = omega (arith, datum_at_falls xs i x h, ap data_size e, ap (λ y. datum_size (view y)) p)

pair_at_falls : (xs : List (Value × Value)) (i : ℕ) (d : Value × Value) → i < length xs
    → datum_size (view (get_or xs i d).0) + datum_size (view (get_or xs i d).1) < pairs_size (pair_views xs)
pair_at_falls [] i d h = absurd (omega arith)
pair_at_falls (x ∷ xs) zero d h = omega arith
pair_at_falls (x ∷ xs) (suc i) d h = let h' : i < length xs = omega arith in omega (arith, pair_at_falls xs i d h')

pub pair_falls : (xs : List (Value × Value)) (ps : List Pair) (i : ℕ) (x : Value × Value) → pair_views xs ≡ ps → i < length xs → x ≡ get_or xs i x
    → datum_size (view x.0) + datum_size (view x.1) < pairs_size ps
pair_falls xs ps i x e h p = omega (arith, pair_at_falls xs i x h, ap pairs_size e, ap (λ y. datum_size (view y.0) + datum_size (view y.1)) p)
