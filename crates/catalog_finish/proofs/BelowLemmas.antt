-- All indexes in a catalog are those of its resources.
use Rattle.std.proofs.Common.{◌≡◌, ◌⊎◌, ℕ, zero, suc, ◌+◌, ◌<◌, ◌≤◌, true, false, if◌then◌else◌, List, [], ◌∷◌, ◌++◌, length, map, All, Option, None, Some, inl, inr, Err, get_or, Bor, refl, sym, ap, ap₂, subst, ◌∙◌, arith}
use Rattle.std.proofs.lemmas.List.Elements.{All-append, All-map}
use Rattle.std.proofs.lemmas.Map.Views.{All-insert_key}
use Rattle.std.specs.BTreeSet.{insert_key}
use Rattle.std.specs.Ordering.{nat_cmp}
use Rattle.std.specs.Prelude.{option_to_list, slice_get}
use Rattle.pp_values.specs.Faults.{fault}
use Rattle.pp_values.specs.declared.fault.Fault.{Fault}
use Rattle.pp_values.specs.declared.fault.What.TheVariants.{Cycle}
use Rattle.pp_values.specs.declared.place.Place.{Place}
use Rattle.pp_values.specs.declared.reference.Reference.{Reference}
use Rattle.rel_graph.specs.Pairs.{AllBelow}
use Rattle.res_book.specs.Rows.{is_live, reference_of}
use Rattle.res_book.specs.declared.containment.Containment.{Containment}
use Rattle.res_book.specs.declared.row.Row.{Row}
use Rattle.res_core.specs.declared.held.Held.{Held}
use Rattle.rel_graph.specs.CatalogPairs.{pairs_from, containment}
use Rattle.catalog_finish.specs.Containing.{cycle_told}
use Rattle.catalog_finish.specs.Layouts.{of_live, indexes_from, indexes, index_at, indexes_at, with_numbers, layout_of, containers, inside}

pub live_count : List Row → ℕ
live_count [] = 0
live_count (r ∷ rs) = if is_live r then suc (live_count rs) else live_count rs

some_same : (a b : ℕ) → Some a ≡ Some b → a ≡ b
some_same a b e = cc

option_cases : (o : Option ℕ) → (o ≡ None) ⊎ ((x : ℕ) × (o ≡ Some x))
option_cases None = inl refl
option_cases (Some x) = inr (x, refl)

index_below : (rows : List Row) (next n i : ℕ) → index_at (indexes_from next rows) n ≡ Some i →
    i < next + live_count rows
unfolding live_count
index_below [] next n i e = absurd cc
index_below (r ∷ rows) next zero i e =
    elim (is_live r) as (λ b. (if b then Some next else None) ≡ Some i →
    i < next + (if b then suc (live_count rows) else live_count rows)) [
      | true ↦ λ f. let here = some_same next i f in omega (arith, here)
      | false ↦ λ f. absurd cc
    ] e
index_below (r ∷ rows) next (suc n) i e =
    elim (is_live r) as (λ b. index_at (indexes_from (if b then suc next else next) rows) n ≡ Some i →
    i < next + (if b then suc (live_count rows) else live_count rows)) [
      | true ↦ λ f. let more = index_below rows (suc next) n i f in omega (arith, more)
      | false ↦ λ f. index_below rows next n i f
    ] e

none_all : {A : Type 0} (P : A → Type 0) → All P []
none_all P k d h = absurd (omega arith)

one_all : {A : Type 0} (P : A → Type 0) (x : A) → P x → All P (x ∷ [])
one_all P x p zero d h = p
one_all P x p (suc k) d h = absurd (omega arith)

indexes_below : (rows : List Row) (ns : List ℕ) → All (λ i. i < live_count rows) (indexes_at (indexes rows) ns)
indexes_below rows [] = none_all (λ i. i < live_count rows)
indexes_below rows (n ∷ ns) =
    All-append (λ i. i < live_count rows) (option_to_list (index_at (indexes rows) n)) (indexes_at (indexes rows) ns)
    (elim (option_cases (index_at (indexes rows) n)) [
      | inl none ↦ subst (λ o. All (λ i. i < live_count rows) (option_to_list o)) (sym none)
          (none_all (λ i. i < live_count rows))
      | inr some ↦ subst (λ o. All (λ i. i < live_count rows) (option_to_list o)) (sym some.1)
          (one_all (λ i. i < live_count rows) some.0
          (let h = index_below rows 0 n some.0 some.1 in omega (arith, h)))
    ])
    (indexes_below rows ns)

with_below : (P : ℕ → Type 0) (held ns : List ℕ) → All P held → All P ns → All P (with_numbers held ns)
with_below P held [] h a = h
with_below P held (n ∷ ns) h a =
    with_below P (insert_key nat_cmp held n) ns (All-insert_key nat_cmp n P held h (a 0 n (omega arith)))
    (λ k d less. a (suc k) d (omega (arith, less)))

pub inside_below : (rows : List Row) (pairs : List Containment) (n : ℕ) (r : Row) →
    All (λ i. i < live_count rows) (inside (layout_of rows pairs) n r)
inside_below rows pairs n r =
    with_below (λ i. i < live_count rows) [] (indexes_at (indexes rows) (containers (layout_of rows pairs) n r))
    (none_all (λ i. i < live_count rows)) (indexes_below rows (containers (layout_of rows pairs) n r))

-- what contains each of these is below the count
abbrev pub AreInside : ℕ → List Held → Type 0
AreInside count [] = Unit {0}
AreInside count (h ∷ hs) = All (λ i. i < count) h.inside × AreInside count hs

pairs_below : (count i : ℕ) (hs : List Held) → AreInside count hs → i + length hs ≤ count →
    AllBelow (pairs_from i hs) count
pairs_below count i [] held few = none_all (λ p. (p.0 < count) × (p.1 < count))
pairs_below count i (h ∷ hs) held few =
    let member : i < count = omega (arith, few) in
    All-append (λ p. (p.0 < count) × (p.1 < count)) (map (λ c. (c, i)) h.inside) (pairs_from (suc i) hs)
    (All-map (λ p. (p.0 < count) × (p.1 < count)) (λ c. (c, i)) h.inside (λ k d less. (held.0 k d less, member)))
    (pairs_below count (suc i) hs held.1 (omega (arith, few)))

module _ (each : ℕ → Row → Held) where
  pub resources_long : (rows : List Row) (n : ℕ) →
      length (of_live (λ m r. each m r ∷ []) n rows) ≡ live_count rows
  unfolding live_count
  resources_long [] n = refl
  resources_long (r ∷ rows) n =
      elim (is_live r) as (λ b. length ((if b then each n r ∷ [] else []) ++ of_live (λ m r. each m r ∷ []) (suc n) rows)
      ≡ (if b then suc (live_count rows) else live_count rows)) [
        | true ↦ ap suc (resources_long rows (suc n))
        | false ↦ resources_long rows (suc n)
      ]

  resources_inside : (count : ℕ) (rows : List Row) (n : ℕ) →
      ((m : ℕ) (r : Row) → All (λ i. i < count) (each m r).inside) →
      AreInside count (of_live (λ m r. each m r ∷ []) n rows)
  resources_inside count [] n all = tt
  resources_inside count (r ∷ rows) n all =
      elim (is_live r) as (λ b. AreInside count ((if b then each n r ∷ [] else [])
      ++ of_live (λ m r. each m r ∷ []) (suc n) rows)) [
        | true ↦ (all n r, resources_inside count rows (suc n) all)
        | false ↦ resources_inside count rows (suc n) all
      ]

  pub resources_below : (rows : List Row) (pairs : List Containment) →
      ((n : ℕ) (r : Row) → (each n r).inside ≡ inside (layout_of rows pairs) n r) →
      AllBelow (containment (of_live (λ m r. each m r ∷ []) 0 rows)) (length (of_live (λ m r. each m r ∷ []) 0 rows))
  resources_below rows pairs are =
      let long = resources_long rows 0 in
      let all : AreInside (live_count rows) (of_live (λ m r. each m r ∷ []) 0 rows) =
      resources_inside (live_count rows) rows 0 (λ m r. subst (λ is. All (λ i. i < live_count rows) is) (sym (are m r))
      (inside_below rows pairs m r)) in
      subst (λ count. AllBelow (containment (of_live (λ m r. each m r ∷ []) 0 rows)) count) (sym long)
      (pairs_below (live_count rows) 0 (of_live (λ m r. each m r ∷ []) 0 rows) all (omega (arith, long)))

  pub resources_few : (rows : List Row) (n : ℕ) → length (of_live (λ m r. each m r ∷ []) n rows) ≤ length rows
  resources_few [] n = omega arith
  resources_few (r ∷ rows) n =
      elim (is_live r) as (λ b. length ((if b then each n r ∷ [] else []) ++ of_live (λ m r. each m r ∷ []) (suc n) rows)
      ≤ suc (length rows)) [
        | true ↦ (let h = resources_few rows (suc n) in omega (arith, h))
        | false ↦ (let h = resources_few rows (suc n) in omega (arith, h))
      ]

-- ---- turns of loops

references : (rows : List (Bor Row)) →
    map (λ x. reference_of x.now.declared) rows ≡ map (λ x. reference_of x.declared) (map (λ r. r.now) rows)
references [] = refl
references (r ∷ rows) = ap (λ xs. reference_of r.now.declared ∷ xs) (references rows)

pub told_first : (rows : List (Bor Row)) (r : Bor Row) (at : Place) (refs : List Reference) (f : Fault) →
    0 < length rows → r ≡ get_or rows 0 r → at ≡ r.now.declared.at →
    refs ≡ map (λ x. reference_of x.now.declared) rows →
    f ≡ fault at (Cycle refs) → cycle_told (map (λ x. x.now) rows) ≡ Err f
told_first [] r at refs f some here place list is = absurd (omega arith)
told_first (x ∷ rows) r at refs f some here place list is =
    sym (ap Err (is ∙ ap₂ (λ p xs. fault p (Cycle xs)) (place ∙ ap (λ y. y.now.declared.at) here)
    (list ∙ references (x ∷ rows))))

-- ---- each index below the count has a declaration

pub record IsThere (rows : List Row) (numbers : List ℕ) (n i : ℕ) : Type 0 where
  pub at : ℕ
  pub numbered : slice_get numbers i ≡ Some (n + at)
  pub row : Row
  pub has : slice_get rows at ≡ Some row

one_on : (n m : ℕ) → suc n + m ≡ n + suc m
one_on n m = omega arith

head_there : (r : Row) (rows : List Row) (numbers : List ℕ) (n i count : ℕ) → i < suc count →
    ((j : ℕ) → j < count → IsThere rows numbers (suc n) j) → IsThere (r ∷ rows) (n ∷ numbers) n i
head_there r rows numbers n zero count h on = record {
  at = 0;
  numbered = ap Some (let e : n ≡ n + 0 = omega arith in e);
  row = r;
  has = refl;
}
head_there r rows numbers n (suc j) count h on =
    let t = on j (omega (arith, h)) in
    record { at = suc t.at; numbered = t.numbered ∙ ap Some (one_on n t.at); row = t.row; has = t.has }

pub live_there : (rows : List Row) (n i : ℕ) → i < live_count rows → IsThere rows (of_live (λ m r. m ∷ []) n rows) n i
unfolding live_count
live_there [] n i h = absurd (omega (arith, h))
live_there (r ∷ rows) n i h =
    elim (is_live r) as (λ b. i < (if b then suc (live_count rows) else live_count rows) →
    IsThere (r ∷ rows) ((if b then n ∷ [] else []) ++ of_live (λ m x. m ∷ []) (suc n) rows) n i) [
      | true ↦ λ f. head_there r rows (of_live (λ m x. m ∷ []) (suc n) rows) n i (live_count rows) f
          (λ j g. live_there rows (suc n) j g)
      | false ↦ λ f.
          let t = live_there rows (suc n) i f in
          record { at = suc t.at; numbered = t.numbered ∙ ap Some (one_on n t.at); row = t.row; has = t.has }
    ] h
