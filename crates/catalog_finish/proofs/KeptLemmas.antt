-- What is made of declarations is a catalog.
use Rattle.std.proofs.Common.{◌≡◌, ℕ, zero, suc, ◌<◌, Bool, true, false, cond, ◌&&◌, ◌||◌, not, if◌then◌else◌, List, [], ◌∷◌, ◌++◌, length, map, filter, drop, All, Option, None, Some, option_map, nat_lt, refl, sym, ap, ap₂, subst, ◌∙◌, arith, append_assoc}
use Rattle.std.proofs.lemmas.Bool.{lt-ltb}
use Rattle.std.proofs.lemmas.Cmp.{nat_cmp_total}
use Rattle.std.proofs.lemmas.List.Folds.{list_all-append}
use Rattle.std.specs.Map.{keys_of}
use Rattle.std.specs.BTreeSet.{insert_key}
use Rattle.std.specs.Cmp.{first_so, second_so}
use Rattle.std.specs.Cmp.Derive.{both_true}
use Rattle.std.specs.List.{AllByRecursion, list_all, list_any}
use Rattle.std.specs.Ordering.{is_lt, match_ordering, nat_cmp, ordering_reverse}
use Rattle.std.specs.Prelude.{slice_get}
use Rattle.std.specs.declared.cmp.Ordering.TheVariants.{Less, Equal, Greater}
use Rattle.std.specs.List.Sorted.{IsStrictlySortedBy}
use Rattle.pp_values.specs.References.{same_reference, same_reference_equiv}
use Rattle.pp_values.specs.declared.reference.Reference.{Reference}
use Rattle.res_book.specs.Rows as named
use Rattle.res_book.specs.Rows.{AreApart, is_live, is_named, item_at, number_of}
use Rattle.res_book.specs.declared.containment.Containment.{Containment}
use Rattle.res_book.specs.declared.row.Row.{Row}
use Rattle.res_core.specs.Catalogs.{are_apart, are_containers, edge_cmp, has_form, is_before, is_between, is_ordered, reference_of, IsCatalog}
use Rattle.res_core.specs.declared.declared.Declared.{Declared}
use Rattle.res_core.specs.declared.edge.Edge.{Edge}
use Rattle.res_core.specs.declared.held.Held.{Held}
use Rattle.catalog_finish.specs.EdgeTables.{Entry, edge_of, edges_of, pair_cmp}
use Rattle.catalog_finish.specs.Layouts.{of_live, indexes, indexes_at, containers, inside, layout_of, with_numbers}
use Rattle.catalog_finish.proofs.BelowLemmas.{inside_below, live_count, resources_long}

-- ---- containers rise

above : (a b : ℕ) → nat_cmp a b ≡ Greater → is_lt (nat_cmp b a) ≡ true
above a b e = ap is_lt (nat_cmp_total.antisymm b a ∙ ap ordering_reverse e)

before-insert_key : (u t : ℕ) (us : List ℕ) → is_lt (nat_cmp u t) ≡ true → is_before nat_cmp u us ≡ true →
    is_before nat_cmp u (insert_key nat_cmp us t) ≡ true
before-insert_key u t [] below first = below
before-insert_key u t (v ∷ vs) below first =
    elim (nat_cmp t v) as (λ o.
    is_before nat_cmp u (match_ordering o (t ∷ v ∷ vs) (v ∷ vs) (v ∷ insert_key nat_cmp vs t)) ≡ true) [
      | Less ↦ below
      | Equal ↦ first
      | Greater ↦ first
    ]

ordered-insert_key : (ts : List ℕ) (t : ℕ) → is_ordered nat_cmp ts ≡ true →
    is_ordered nat_cmp (insert_key nat_cmp ts t) ≡ true
ordered-insert_key [] t h = refl
ordered-insert_key (u ∷ us) t h =
    elim (nat_cmp t u) as (λ o. nat_cmp t u ≡ o →
    is_ordered nat_cmp (match_ordering o (t ∷ u ∷ us) (u ∷ us) (u ∷ insert_key nat_cmp us t)) ≡ true) [
      | Less ↦ λ e. both_true (ap is_lt e) h
      | Equal ↦ λ e. h
      | Greater ↦ λ e.
          both_true (before-insert_key u t us (above t u e) (first_so _ _ h)) (ordered-insert_key us t (second_so _ _ h))
    ] refl

ordered-with_numbers : (ns taken : List ℕ) → is_ordered nat_cmp taken ≡ true →
    is_ordered nat_cmp (with_numbers taken ns) ≡ true
ordered-with_numbers [] taken h = h
ordered-with_numbers (n ∷ ns) taken h =
    ordered-with_numbers ns (insert_key nat_cmp taken n) (ordered-insert_key taken n h)

all_below : (count : ℕ) (is : List ℕ) → All (λ i. i < count) is → list_all (λ i. nat_lt i count) is ≡ true
all_below count [] all = refl
all_below count (i ∷ is) all =
    both_true (lt-ltb i count (all zero i (omega arith)))
    (all_below count is (λ k d below. all (suc k) d (omega (arith, below))))

inside_contains : (rows : List Row) (pairs : List Containment) (n : ℕ) (r : Row) →
    are_containers (live_count rows) (inside (layout_of rows pairs) n r) ≡ true
inside_contains rows pairs n r =
    both_true (all_below (live_count rows) (inside (layout_of rows pairs) n r) (inside_below rows pairs n r))
    (ordered-with_numbers (indexes_at (indexes rows) (containers (layout_of rows pairs) n r)) [] refl)

module _ (p : Held → Bool) (each : ℕ → Row → Held) (all : (n : ℕ) (r : Row) → p (each n r) ≡ true) where
  all_live : (rows : List Row) (n : ℕ) → list_all p (of_live (λ m r. each m r ∷ []) n rows) ≡ true
  all_live [] n = refl
  all_live (r ∷ rows) n =
      elim (is_live r) as (λ b. list_all p ((if b then each n r ∷ [] else [])
      ++ of_live (λ m q. each m q ∷ []) (suc n) rows) ≡ true) [
        | true ↦ both_true (all n r) (all_live rows (suc n))
        | false ↦ all_live rows (suc n)
      ]

-- ---- no two have the same reference

not_none : (n : ℕ) → Some 0 ≡ Some (suc n) → ⊥
not_none n e = cc

next_number : (o : Option ℕ) (n : ℕ) → option_map suc o ≡ Some (suc n) → o ≡ Some n
next_number o n e =
    elim o as (λ x. option_map suc x ≡ Some (suc n) → x ≡ Some n) [ None ↦ λ h. absurd cc | Some m ↦ λ h. ap Some cc ] e

either_false : (a b : Bool) → a ≡ false → b ≡ false → (a || b) ≡ false
either_false true b e f = absurd cc
either_false false b e f = f

-- what finds a later declaration doesn't find the first one, and the later ones are apart too
module _ (r : Row) (rows : List Row) (apart : AreApart (r ∷ rows)) where
  later : (n : ℕ) (d : Declared) → item_at rows n ≡ Some d →
      (is_named (named.reference_of d) r ≡ false) × (number_of (named.reference_of d) rows ≡ Some n)
  later n d there =
      elim (is_named (named.reference_of d) r) as (λ b.
      (if b then Some 0 else option_map suc (number_of (named.reference_of d) rows)) ≡ Some (suc n) →
      (b ≡ false) × (number_of (named.reference_of d) rows ≡ Some n)) [
        | true ↦ λ h. absurd (not_none n h)
        | false ↦ λ h. (refl, next_number (number_of (named.reference_of d) rows) n h)
      ] (apart.found (suc n) d there)

  rest_apart : AreApart rows
  rest_apart = record { found = λ n d there. (later n d there).1 }

  others_differ : (n : ℕ) (d : Declared) → item_at rows n ≡ Some d →
      same_reference (named.reference_of r.declared) (named.reference_of d) ≡ false
  others_differ n d there =
      same_reference_equiv.symm (named.reference_of r.declared) (named.reference_of d) ∙ (later n d there).0

module _ (each : ℕ → Row → Held)
    (called : (n : ℕ) (r : Row) → reference_of (each n r) ≡ named.reference_of r.declared) where
  live_from : ℕ → List Row → List Held
  live_from n rows = of_live (λ m r. each m r ∷ []) n rows

  none_same : (q : Reference) (rows : List Row) (n : ℕ) →
      ((k : ℕ) (d : Declared) → item_at rows k ≡ Some d → same_reference q (named.reference_of d) ≡ false) →
      list_any (same_reference q) (map reference_of (live_from n rows)) ≡ false
  unfolding live_from
  none_same q [] n differ = refl
  none_same q (r ∷ rows) n differ =
      let rest = none_same q rows (suc n) (λ k d there. differ (suc k) d there) in
      elim (is_live r) as (λ b. list_any (same_reference q) (map reference_of ((if b then each n r ∷ [] else [])
      ++ of_live (λ m x. each m x ∷ []) (suc n) rows)) ≡ false) [
        | true ↦
            either_false (same_reference q (reference_of (each n r))) _
            (ap (same_reference q) (called n r) ∙ differ zero r.declared refl) rest
        | false ↦ rest
      ]

  live_apart : (rows : List Row) (n : ℕ) → AreApart rows → are_apart (map reference_of (live_from n rows)) ≡ true
  unfolding live_from
  live_apart [] n apart = refl
  live_apart (r ∷ rows) n apart =
      let rest = live_apart rows (suc n) (rest_apart r rows apart) in
      let first = none_same (reference_of (each n r)) rows (suc n) (λ k d there.
      ap (λ q. same_reference q (named.reference_of d)) (called n r) ∙ others_differ r rows apart k d there) in
      elim (is_live r) as (λ b. are_apart (map reference_of ((if b then each n r ∷ [] else [])
      ++ of_live (λ m x. each m x ∷ []) (suc n) rows)) ≡ true) [
        | true ↦ both_true (ap not first) rest
        | false ↦ rest
      ]

-- ---- edges

above_edges : (count : ℕ) (e : Entry) (es : List Entry) → AllByRecursion (λ k. pair_cmp e.0 k ≡ Less) (keys_of es) →
    is_before edge_cmp (edge_of e) (edges_of count es) ≡ true
above_edges count e [] all = refl
above_edges count e (f ∷ es) all =
    elim (is_between count (edge_of f)) as (λ b.
    is_before edge_cmp (edge_of e) (cond b (edge_of f ∷ edges_of count es) (edges_of count es)) ≡ true) [
      | true ↦ ap is_lt all.0
      | false ↦ above_edges count e es all.1
    ]

pub edges_rise : (count : ℕ) (es : List Entry) → IsStrictlySortedBy pair_cmp (keys_of es) →
    is_ordered edge_cmp (edges_of count es) ≡ true
unfolding IsStrictlySortedBy
edges_rise count [] h = refl
edges_rise count (e ∷ es) h =
    elim (is_between count (edge_of e)) as (λ b.
    is_ordered edge_cmp (cond b (edge_of e ∷ edges_of count es) (edges_of count es)) ≡ true) [
      | true ↦ both_true (above_edges count e es h.0) (edges_rise count es h.1)
      | false ↦ edges_rise count es h.1
    ]

pub all_left : (p : Edge → Bool) (es : List Edge) → list_all p (filter p es) ≡ true
all_left p [] = refl
all_left p (e ∷ es) =
    elim (p e) as (λ b. p e ≡ b → list_all p (cond b (e ∷ filter p es) (filter p es)) ≡ true) [
      | true ↦ λ h. both_true h (all_left p es)
      | false ↦ λ h. all_left p es
    ] refl

-- ---- forms

pub one_more_form : (old new : List Held) (h : Held) → new ≡ old ++ h ∷ [] → list_all has_form old ≡ true →
    has_form h ≡ true → list_all has_form new ≡ true
one_more_form old new h is all form =
    ap (list_all has_form) is ∙ list_all-append has_form old (h ∷ []) ∙ both_true all (both_true form refl)

-- ---- all of it

module _ (each : ℕ → Row → Held) (rows : List Row) (pairs : List Containment) (entries : List Entry) where
  made : List Held
  made = of_live (λ m r. each m r ∷ []) 0 rows

  pub is_catalog : ((n : ℕ) (r : Row) → reference_of (each n r) ≡ named.reference_of r.declared) →
      ((n : ℕ) (r : Row) → (each n r).inside ≡ inside (layout_of rows pairs) n r) → AreApart rows →
      list_all has_form (of_live (λ m r. each m r ∷ []) 0 rows) ≡ true →
      is_ordered edge_cmp (edges_of (length (of_live (λ m r. each m r ∷ []) 0 rows)) entries) ≡ true →
      IsCatalog (of_live (λ m r. each m r ∷ []) 0 rows)
      (edges_of (length (of_live (λ m r. each m r ∷ []) 0 rows)) entries)
  unfolding live_from made
  is_catalog called are apart forms ordered =
      let long : length made ≡ live_count rows = resources_long each rows 0 in
      record {
        apart = live_apart each called rows 0 apart;
        contained = all_live (λ h. are_containers (length made) h.inside) each
            (λ n r. ap (λ is. are_containers (length made) is) (are n r)
            ∙ ap (λ count. are_containers count (inside (layout_of rows pairs) n r)) long ∙ inside_contains rows pairs n r)
            rows 0;
        forms = forms;
        between = all_left (is_between (length made)) (map edge_of entries);
        ordered = ordered;
      }

  -- of resources and edges that are made so
  pub kept : (hs : List Held) (es : List Edge) →
      ((n : ℕ) (r : Row) → reference_of (each n r) ≡ named.reference_of r.declared) →
      ((n : ℕ) (r : Row) → (each n r).inside ≡ inside (layout_of rows pairs) n r) → AreApart rows →
      hs ≡ of_live (λ m r. each m r ∷ []) 0 rows → es ≡ edges_of (length hs) entries → list_all has_form hs ≡ true →
      is_ordered edge_cmp es ≡ true → IsCatalog hs es
  kept hs es called are apart all edges forms ordered =
      let whole : List Held = of_live (λ m r. each m r ∷ []) 0 rows in
      let put : es ≡ edges_of (length whole) entries = edges ∙ ap (λ xs. edges_of (length xs) entries) all in
      subst (λ xs. IsCatalog xs es) (sym all)
      (subst (λ ys. IsCatalog whole ys) (sym put)
      (is_catalog called are apart (sym (ap (list_all has_form) all) ∙ forms)
      (sym (ap (is_ordered edge_cmp) put) ∙ ordered)))
