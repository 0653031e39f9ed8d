-- Sources as the code holds them.
use Rattle.std.proofs.Common.{◌≡◌, ℕ, zero, suc, ◌+◌, ◌<◌, true, false, List, [], ◌∷◌, length, drop, get_or, Option, None, map, Ok, refl, sym, ap, ◌∙◌, arith}
use Rattle.std.specs.Prelude.{Err, option_and_then}
use Rattle.pp_values.specs.Views.{view, views}
use Rattle.pp_values.specs.declared.value.Value.{Value}
use Rattle.hiera_config.specs.Found.{source_views}
use Rattle.hiera_config.specs.Meant.{Meant, go_on}
use Rattle.hiera_config.specs.Sound.{first_value, highest}
use Rattle.hiera_config.specs.Sources as s
use Rattle.hiera_config.specs.declared.searching.Source.{Source}
use Rattle.hiera_merge.specs.declared.merge.Merge.{Merge}
use Rattle.hiera_merge.specs.declared.merge.Merge.TheVariants as by
use Rattle.hiera_merge.specs.Digging.{dug}
use Rattle.pp_values.specs.Datum.{Datum}
use Rattle.hiera_merge.specs.Merges.{merged}
use Rattle.hiera_lookup.specs.Filled.{Answer}
use Rattle.hiera_lookup.specs.Found.{found, found_in, dug_or_refused, root_of, steps_of}
use Rattle.hiera_lookup.specs.Options.{has_options, highest_path}
use Rattle.hiera_lookup.specs.World.{World}

pub found_none : (key : List ℕ) (merge : Merge) (xs : List Source) → map (λ s. view s.value) xs ≡ []
    → found_in key merge (source_views xs) ≡ Ok None
unfolding found_in
found_none key merge [] is = refl
found_none key merge (x ∷ xs) is = absurd (cc is)

values_of : (xs : List Source) → map (λ s. s.0) (source_views xs) ≡ map (λ s. view s.value) xs
values_of [] = refl
values_of (x ∷ xs) = ap (λ ds. view x.value ∷ ds) (values_of xs)

pub found_more : (key : List ℕ) (merge : Merge) (xs : List Source) (high : Datum) (lower : List Datum)
    → map (λ s. view s.value) xs ≡ high ∷ lower
    → found_in key merge (source_views xs) ≡ dug_or_refused key (merged merge high lower)
unfolding found_in
found_more key merge [] high lower is = absurd (cc is)
found_more key merge (x ∷ xs) high lower is =
    let first : view x.value ≡ high = cc is in
    let rest : map (λ (s : Source). view s.value) xs ≡ lower = cc is in
    ap (λ ds. dug_or_refused key (merged merge (view x.value) ds)) (values_of xs ∙ rest)
    ∙ ap (λ d. dug_or_refused key (merged merge d lower)) first

pub none_of_length : (vs : List Value) → length vs ≡ 0 → views vs ≡ []
none_of_length [] is = refl
none_of_length (v ∷ vs) is = absurd (omega (arith, is))

by_first : (key : List ℕ) (merge : Merge) (ss : List s.Source) → merge ≡ by.First
    → found_in key merge ss ≡ Ok (option_and_then (dug (steps_of key)) (first_value ss))
unfolding found_in
by_first key merge [] first = refl
by_first key merge (x ∷ xs) first =
    ap (λ m. dug_or_refused key (merged m x.0 (map (λ (y : s.Source). y.0) xs))) first

highest_in : (key : List ℕ) (merge : Merge) (o : Meant (List s.Source)) → merge ≡ by.First
    → go_on o (found_in key merge) ≡ go_on (highest o) (λ v. Ok (option_and_then (dug (steps_of key)) v))
unfolding go_on
highest_in key merge (Ok ss) first = by_first key merge ss first
highest_in key merge (Err f) first = refl

-- by `first`, what the highest has
pub found_highest : (w : World) (m : Option (List ℕ)) (key : List ℕ) (merge : Merge) → merge ≡ by.First
    → found w m key merge
    ≡ go_on (highest (w.had m (root_of key))) (λ v. Ok (option_and_then (dug (steps_of key)) v))
unfolding found
found_highest w m key merge first = highest_in key merge (w.had m (root_of key)) first

-- ---- the file of options that are none

pub path_here : (w : World) (answers : List Answer) (root : List ℕ) (xs : List Source) (i : ℕ) (x : Source)
    → i < length xs → x ≡ get_or xs i x
    → has_options w answers root (view x.value) ≡ true
    → highest_path w answers root (source_views (drop i xs)) ≡ x.path
path_here w answers root [] i x h at e = absurd (omega (arith, h))
path_here w answers root (y ∷ xs) zero x h at e =
    let there : has_options w answers root (view y.value) ≡ true =
    ap (λ (z : Source). has_options w answers root (view z.value)) (sym at) ∙ e in
    rw there (ap (λ (z : Source). z.path) (sym at))
path_here w answers root (y ∷ xs) (suc i) x h at e =
    let h' : i < length xs = omega (arith, h) in
    path_here w answers root xs i x h' at e

pub path_later : (w : World) (answers : List Answer) (root : List ℕ) (xs : List Source) (i : ℕ) (x : Source)
    → i < length xs → x ≡ get_or xs i x
    → has_options w answers root (view x.value) ≡ false
    → highest_path w answers root (source_views (drop i xs))
    ≡ highest_path w answers root (source_views (drop (i + 1) xs))
path_later w answers root [] i x h at e = absurd (omega (arith, h))
path_later w answers root (y ∷ xs) zero x h at e =
    let there : has_options w answers root (view y.value) ≡ false =
    ap (λ (z : Source). has_options w answers root (view z.value)) (sym at) ∙ e in
    rw there refl
path_later w answers root (y ∷ xs) (suc i) x h at e =
    let h' : i < length xs = omega (arith, h) in
    let next : suc i + 1 ≡ suc (i + 1) = omega arith in
    rw next (path_later w answers root xs i x h' at e)
