-- The depth of a list of which one part was appended or set.
use Rattle.std.proofs.Common.{◌≡◌, ℕ, zero, suc, ◌+◌, ◌<◌, ◌≤◌, List, [], ◌∷◌, ◌++◌, length, refl, arith}
use Rattle.std.specs.Prelude.{max, Option, None, Some}
use Rattle.pp_values.specs.declared.bounds.Bounds.{Bounds}
use Rattle.pp_values.specs.declared.bounds.Bounds.TheVariants as bounds
use Rattle.pp_values.specs.declared.ptype.EntryType.{EntryType}
use Rattle.pp_values.specs.declared.ptype.MemberType.{MemberType}
use Rattle.pp_values.specs.declared.ptype.PType.{PType}
use Rattle.pp_values.specs.declared.ptype.PType.TheVariants as v
use Rattle.pp_values.specs.Datum.{Datum, Pair}
use Rattle.pp_values.specs.declared.value.Value.{Value}
use Rattle.pp_values.specs.Depth.{IsDepth, max_nesting, depth, deepest, deepest_value, deepest_type, sort_depth}
use Rattle.pp_values.specs.Depth.{arguments_of, arguments_depth}
use Rattle.pp_values.specs.PTypes.{sort, sorts, bounds_arguments, text_argument}
use Rattle.pp_values.specs.Sort.{Sort, of, texts_arguments}
use Rattle.pp_values.specs.Places.{with_value}
use Rattle.pp_values.specs.Views.{view, views, pair_views}

deepest-push : (xs : List Value) (x : Value) → deepest (views (xs ++ x ∷ [])) ≡ max (deepest (views xs)) (depth (view x))
deepest-push [] x = omega arith
deepest-push (y ∷ xs) x = omega (arith, deepest-push xs x)

deepest_value-push : (xs : List (Value × Value)) (x : Value × Value)
    → deepest_value (pair_views (xs ++ x ∷ [])) ≡ max (deepest_value (pair_views xs)) (depth (view x.1))
deepest_value-push [] x = omega arith
deepest_value-push (y ∷ xs) x = omega (arith, deepest_value-push xs x)

deepest_type-push : (xs : List PType) (x : PType)
    → deepest_type (sorts (xs ++ x ∷ [])) ≡ max (deepest_type (sorts xs)) (sort_depth (sort x))
deepest_type-push [] x = omega arith
deepest_type-push (y ∷ xs) x = omega (arith, deepest_type-push xs x)

pub sort_depth-arguments : (t : Sort) → sort_depth t ≡ arguments_depth (arguments_of t) + 1
sort_depth-arguments (of n xs) = refl

-- a kept depth, once a part was appended: the greater of what was kept and of what it would be for that part alone
pub kept-push : (xs : List Value) (x : Value) (kept alone part : ℕ) → IsDepth kept (deepest (views xs) + 1)
    → IsDepth alone (part + 1) → part ≡ depth (view x)
    → IsDepth (max kept alone) (deepest (views (xs ++ x ∷ [])) + 1)
kept-push xs x kept alone part k a p =
    let pushed = deepest-push xs x in
    (omega (arith, pushed, k.0, k.1, a.0, a.1, p), omega (arith, pushed, k.0, k.1, a.0, a.1, p))

pub kept-push_pair : (xs : List (Value × Value)) (x : Value × Value) (kept alone part : ℕ)
    → IsDepth kept (deepest_value (pair_views xs) + 1) → IsDepth alone (part + 1) → part ≡ depth (view x.1)
    → IsDepth (max kept alone) (deepest_value (pair_views (xs ++ x ∷ [])) + 1)
kept-push_pair xs x kept alone part k a p =
    let pushed = deepest_value-push xs x in
    (omega (arith, pushed, k.0, k.1, a.0, a.1, p), omega (arith, pushed, k.0, k.1, a.0, a.1, p))

pub kept-push_type : (xs : List PType) (x : PType) (kept alone part : ℕ) → IsDepth kept (deepest_type (sorts xs))
    → IsDepth alone (part + 1) → IsDepth part (arguments_depth (arguments_of (sort x)))
    → IsDepth (max kept alone) (deepest_type (sorts (xs ++ x ∷ [])))
kept-push_type xs x kept alone part k a p =
    let pushed = deepest_type-push xs x in
    let alone_is = sort_depth-arguments (sort x) in (
      omega (arith, pushed, alone_is, k.0, k.1, a.0, a.1, p.0, p.1),
      omega (arith, pushed, alone_is, k.0, k.1, a.0, a.1, p.0, p.1),
    )

-- a value that is set in its place
at_most : (v : Datum) (n : ℕ) (ps : List Pair)
    → deepest_value (with_value v n ps) ≤ max (deepest_value ps) (depth v)
at_most v n [] = omega arith
at_most v zero (p ∷ ps) = omega arith
at_most v (suc n) (p ∷ ps) = omega (arith, at_most v n ps)

at_least : (v : Datum) (n : ℕ) (xs : List (Value × Value)) → n < length xs
    → depth v ≤ deepest_value (with_value v n (pair_views xs))
at_least v n [] h = absurd (omega (arith, h))
at_least v zero (x ∷ xs) h = omega arith
at_least v (suc n) (x ∷ xs) h = let h' : n < length xs = omega (arith, h) in omega (arith, at_least v n xs h')

pub set-limit : (v : Datum) (n : ℕ) (ps : List Pair) (kept alone part : ℕ) → IsDepth kept (deepest_value ps + 1)
    → IsDepth alone (part + 1) → part ≡ depth v → deepest_value (with_value v n ps) < max_nesting
set-limit v n ps kept alone part k a p = omega (arith, at_most v n ps, k.0, k.1, a.0, a.1, p)

pub set-deepest : (v : Datum) (n : ℕ) (xs : List (Value × Value)) (kept alone part : ℕ) → n < length xs
    → IsDepth kept (deepest_value (pair_views xs) + 1) → IsDepth alone (part + 1) → part ≡ depth v → kept ≤ alone
    → deepest_value (with_value v n (pair_views xs)) + 1 ≡ alone
set-deepest v n xs kept alone part h k a p le =
    omega (arith, at_most v n (pair_views xs), at_least v n xs h, k.0, k.1, a.0, a.1, p, le)

-- bounds and texts have no depth: a type of which no other type is a part has none within it
bounds_depth : (b : Bounds) → arguments_depth (bounds_arguments b) ≡ 0
bounds_depth bounds.Omitted = refl
bounds_depth (bounds.Least a) = refl
bounds_depth (bounds.Both a b) = refl

texts_depth : (ts : List (List ℕ)) → arguments_depth (texts_arguments ts) ≡ 0
texts_depth [] = refl
texts_depth (t ∷ ts) = texts_depth ts

title_depth : (t : Option (List ℕ)) → arguments_depth (text_argument t) ≡ 0
title_depth None = refl
title_depth (Some t) = refl

pub others_depth : (t : PType) → ((m : Option MemberType) → t ≡ v.Array m → ⊥)
    → ((e : Option EntryType) → t ≡ v.Hash e → ⊥)
    → ((s : Option Sort) → t ≡ v.Optional s → ⊥) → ((ts : List Sort) → t ≡ v.Variant ts → ⊥)
    → ((s : Option Sort) → t ≡ v.NotUndef s → ⊥) → ((ts : List Sort) → t ≡ v.Tuple ts → ⊥)
    → ((s : Option Sort) → t ≡ v.KindOf s → ⊥) → arguments_depth (arguments_of (sort t)) ≡ 0
others_depth (v.Array m) array hash optional variant not_undef tuple kind_of = absurd (array m refl)
others_depth (v.Hash e) array hash optional variant not_undef tuple kind_of = absurd (hash e refl)
others_depth (v.Optional s) array hash optional variant not_undef tuple kind_of = absurd (optional s refl)
others_depth (v.Variant ts) array hash optional variant not_undef tuple kind_of = absurd (variant ts refl)
others_depth (v.NotUndef s) array hash optional variant not_undef tuple kind_of = absurd (not_undef s refl)
others_depth (v.Tuple ts) array hash optional variant not_undef tuple kind_of = absurd (tuple ts refl)
others_depth (v.KindOf s) array hash optional variant not_undef tuple kind_of = absurd (kind_of s refl)
others_depth (v.Integer b) array hash optional variant not_undef tuple kind_of = bounds_depth b
others_depth (v.String b) array hash optional variant not_undef tuple kind_of = bounds_depth b
others_depth (v.Enum ts) array hash optional variant not_undef tuple kind_of = texts_depth ts
others_depth (v.Class t) array hash optional variant not_undef tuple kind_of = title_depth t
others_depth (v.Resource k t) array hash optional variant not_undef tuple kind_of = title_depth t
others_depth t array hash optional variant not_undef tuple kind_of = refl
