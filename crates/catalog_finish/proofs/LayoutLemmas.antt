-- Declarations one after another, and their indexes.
use Rattle.std.proofs.Common.{◌≡◌, ℕ, zero, suc, ◌+◌, ◌<◌, ◌≤◌, true, false, if◌then◌else◌, List, [], ◌∷◌, ◌++◌, length, map, drop, get_or, set, Option, None, Some, inl, inr, refl, sym, ap, ap₂, ◌∙◌, arith, add-one, append_assoc}
use Rattle.std.proofs.Math.ListN.{drop_of_length-le}
use Rattle.std.proofs.Math.Seq.{drop-cons}
use Rattle.std.proofs.lemmas.Bool.Decides.{eqb_tells}
use Rattle.std.proofs.lemmas.List.{append-nil, map-append}
use Rattle.std.proofs.lemmas.Option.{get_or_from_slice_get}
use Rattle.std.specs.Prelude.{option_to_list, slice_get}
use Rattle.std.specs.declared.alloc.Global.{Global}
use Rattle.std.specs.declared.vec.Vec.{Vec}
use Rattle.res_book.specs.Rows.{is_live, is_live_at, passes}
use Rattle.res_book.specs.declared.containment.Containment.{Containment}
use Rattle.res_book.specs.declared.row.Row.{Row}
use Rattle.catalog_finish.specs.Layouts.{of_live, index_at, indexes_at, indexes_from, outers_of, outers_from, rising}
use Rattle.catalog_finish.specs.Tables.{lists, put_at, more}

-- ---- from a number on

pub row_there : (rows : List Row) (n : ℕ) → n < length rows → (r : Row) × (slice_get rows n ≡ Some r)
row_there [] n h = absurd (omega arith)
row_there (r ∷ rows) zero h = (r, refl)
row_there (r ∷ rows) (suc n) h = row_there rows n (omega arith)

pub rows_from : (rows : List Row) (n : ℕ) (r : Row) → n < length rows → slice_get rows n ≡ Some r →
    drop n rows ≡ r ∷ drop (suc n) rows
rows_from rows n r h is = drop-cons rows n r h ∙ ap (λ x. x ∷ drop (suc n) rows) (get_or_from_slice_get rows n r r is)

module _ {A : Type 0} (each : ℕ → Row → List A) (rows : List Row) (n : ℕ) where
  live_here : (r : Row) → n < length rows → slice_get rows n ≡ Some r →
      of_live each n (drop n rows) ≡ (if is_live r then each n r else []) ++ of_live each (suc n) (drop (suc n) rows)
  live_here r h is = ap (of_live each n) (rows_from rows n r h is)

  pub live_taken : (r : Row) → n < length rows → slice_get rows n ≡ Some r → is_live_at rows n ≡ true →
      of_live each n (drop n rows) ≡ each n r ++ of_live each (n + 1) (drop (n + 1) rows)
  live_taken r h is live =
      let here : is_live r ≡ true = sym (ap (passes is_live) is) ∙ live in
      live_here r h is ∙ ap (λ b. (if b then each n r else []) ++ of_live each (suc n) (drop (suc n) rows)) here
      ∙ rw add-one refl

  pub live_passed : n < length rows → is_live_at rows n ≡ false →
      of_live each n (drop n rows) ≡ of_live each (n + 1) (drop (n + 1) rows)
  live_passed h live =
      let row = row_there rows n h in
      let here : is_live row.0 ≡ false = sym (ap (passes is_live) row.1) ∙ live in
      live_here row.0 h row.1
      ∙ ap (λ b. (if b then each n row.0 else []) ++ of_live each (suc n) (drop (suc n) rows)) here
      ∙ rw add-one refl

  pub live_end : length rows ≤ n → of_live each n (drop n rows) ≡ []
  live_end h = ap (of_live each n) (drop_of_length-le rows h)

-- ---- indexes

module _ (next : ℕ) (rows : List Row) (n : ℕ) where
  index_here : (r : Row) → n < length rows → slice_get rows n ≡ Some r →
      indexes_from next (drop n rows)
      ≡ (if is_live r then Some next else None) ∷ indexes_from (if is_live r then suc next else next) (drop (suc n) rows)
  index_here r h is = ap (indexes_from next) (rows_from rows n r h is)

  pub index_taken : n < length rows → is_live_at rows n ≡ true →
      indexes_from next (drop n rows) ≡ Some next ∷ indexes_from (next + 1) (drop (n + 1) rows)
  index_taken h live =
      let row = row_there rows n h in
      let here : is_live row.0 ≡ true = sym (ap (passes is_live) row.1) ∙ live in
      index_here row.0 h row.1
      ∙ ap (λ b. (if b then Some next else None) ∷ indexes_from (if b then suc next else next) (drop (suc n) rows)) here
      ∙ ap₂ (λ a b. Some next ∷ indexes_from a (drop b rows)) (sym (add-one next)) (sym (add-one n))

  pub index_passed : n < length rows → is_live_at rows n ≡ false →
      indexes_from next (drop n rows) ≡ None ∷ indexes_from next (drop (n + 1) rows)
  index_passed h live =
      let row = row_there rows n h in
      let here : is_live row.0 ≡ false = sym (ap (passes is_live) row.1) ∙ live in
      index_here row.0 h row.1
      ∙ ap (λ b. (if b then Some next else None) ∷ indexes_from (if b then suc next else next) (drop (suc n) rows)) here
      ∙ rw add-one refl

  pub index_end : length rows ≤ n → indexes_from next (drop n rows) ≡ []
  index_end h = ap (indexes_from next) (drop_of_length-le rows h)

-- ---- the table of `contain`

other_number : (m : ℕ) (ts : List (List ℕ)) (c : Containment) (cs : List Containment) → c.inner < m →
    more m ts (c ∷ cs) ≡ more m ts cs
other_number m [] c cs h = refl
other_number m (t ∷ ts) c cs h = elim (eqb_tells m c.inner) [
  | inl same ↦ absurd (let e = same.1 in omega arith)
  | inr other ↦
      ap₂ (λ b us. (t ++ ((if b then c.outer ∷ [] else []) ++ outers_of m cs)) ∷ us) other.0
      (other_number (suc m) ts c cs (omega arith))
]

put_from : (n i x : ℕ) (ts : List (List ℕ)) (cs : List Containment) →
    more n (put_at i x ts) cs ≡ more n ts (record { outer = x; inner = n + i } ∷ cs)
put_from n i x [] cs = refl
put_from n zero x (t ∷ ts) cs = elim (eqb_tells n (n + 0)) [
  | inl same ↦
      ap₂ (λ u us. u ∷ us)
      (append_assoc t (x ∷ []) (outers_of n cs)
      ∙ sym (ap (λ b. t ++ ((if b then x ∷ [] else []) ++ outers_of n cs)) same.0))
      (sym (other_number (suc n) ts (record { outer = x; inner = n + 0 }) cs (omega arith)))
  | inr other ↦ absurd (other.1 (omega arith))
]
put_from n (suc i) x (t ∷ ts) cs = elim (eqb_tells n (n + suc i)) [
  | inl same ↦ absurd (let e = same.1 in omega arith)
  | inr other ↦
      ap₂ (λ u us. u ∷ us)
      (sym (ap (λ b. t ++ ((if b then x ∷ [] else []) ++ outers_of n cs)) other.0))
      (put_from (suc n) i x ts cs
      ∙ ap (λ m. more (suc n) ts (record { outer = x; inner = m } ∷ cs)) (let e : suc n + i ≡ n + suc i = omega arith in e))
]

pub put_one : (c : Containment) (ts : List (List ℕ)) (cs : List Containment) →
    more 0 (put_at c.inner c.outer ts) cs ≡ more 0 ts (c ∷ cs)
put_one c ts cs =
    put_from 0 c.inner c.outer ts cs
    ∙ ap (λ m. more 0 ts (record { outer = c.outer; inner = m } ∷ cs)) (let e : 0 + c.inner ≡ c.inner = omega arith in e)

pub none_more : (n : ℕ) (ts : List (List ℕ)) → more n ts [] ≡ ts
none_more n [] = refl
none_more n (t ∷ ts) = ap₂ (λ u us. u ∷ us) (append-nil t) (none_more (suc n) ts)

pub more_than_none : (n : ℕ) (rows : List Row) (cs : List Containment) →
    more n (map (λ r. []) rows) cs ≡ outers_from cs n rows
more_than_none n [] cs = refl
more_than_none n (r ∷ rows) cs = ap (λ us. outers_of n cs ∷ us) (more_than_none (suc n) rows cs)

-- ---- the table as the code has it

pub put_past : (n x : ℕ) (ts : List (List ℕ)) → length ts ≤ n → ts ≡ put_at n x ts
put_past n x [] h = refl
put_past zero x (t ∷ ts) h = absurd (omega arith)
put_past (suc n) x (t ∷ ts) h = ap (λ us. t ∷ us) (put_past n x ts (omega arith))

pub put_within : (vs : List (Vec ℕ Global)) (n x : ℕ) (v w : Vec ℕ Global) → n < length vs → v ≡ get_or vs n v →
    w.items ≡ v.items ++ x ∷ [] → lists (set vs n w) ≡ put_at n x (lists vs)
put_within [] n x v w h is added = absurd (omega arith)
put_within (y ∷ vs) zero x v w h is added =
    ap (λ t. t ∷ lists vs) (added ∙ ap (λ z. z.items ++ x ∷ []) is)
put_within (y ∷ vs) (suc n) x v w h is added = ap (λ ts. y.items ∷ ts) (put_within vs n x v w (omega arith) is added)

pub lists_long : (vs : List (Vec ℕ Global)) → length (lists vs) ≡ length vs
lists_long [] = refl
lists_long (v ∷ vs) = ap suc (lists_long vs)

-- ---- turns of loops

pub taken_turn : (rows : List Row) (n next after : ℕ) (held new whole : List (Option ℕ)) → n < length rows →
    is_live_at rows n ≡ true → new ≡ held ++ Some next ∷ [] → after ≡ next + 1 →
    held ++ indexes_from next (drop n rows) ≡ whole → new ++ indexes_from after (drop (n + 1) rows) ≡ whole
taken_turn rows n next after held new whole h live is later all =
    ap₂ (λ xs m. xs ++ indexes_from m (drop (n + 1) rows)) is later
    ∙ append_assoc held (Some next ∷ []) (indexes_from (next + 1) (drop (n + 1) rows))
    ∙ sym (ap (λ xs. held ++ xs) (index_taken next rows n h live))
    ∙ all

pub passed_turn : (rows : List Row) (n next after : ℕ) (held new whole : List (Option ℕ)) → n < length rows →
    is_live_at rows n ≡ false → new ≡ held ++ None ∷ [] → after ≡ next →
    held ++ indexes_from next (drop n rows) ≡ whole → new ++ indexes_from after (drop (n + 1) rows) ≡ whole
passed_turn rows n next after held new whole h live is later all =
    ap₂ (λ xs m. xs ++ indexes_from m (drop (n + 1) rows)) is later
    ∙ append_assoc held (None ∷ []) (indexes_from next (drop (n + 1) rows))
    ∙ sym (ap (λ xs. held ++ xs) (index_passed next rows n h live))
    ∙ all

pub pair_turn : (pairs : List Containment) (i : ℕ) (d : Containment) (old new whole : List (List ℕ)) → i < length pairs →
    new ≡ put_at (get_or pairs i d).inner (get_or pairs i d).outer old → more 0 old (drop i pairs) ≡ whole →
    more 0 new (drop (i + 1) pairs) ≡ whole
pair_turn pairs i d old new whole h put all =
    let c : Containment = get_or pairs i d in
    let next : drop i pairs ≡ c ∷ drop (i + 1) pairs =
    drop-cons pairs i d h ∙ ap (λ j. c ∷ drop j pairs) (sym (add-one i)) in
    ap (λ ts. more 0 ts (drop (i + 1) pairs)) put ∙ put_one c old (drop (i + 1) pairs) ∙ sym (ap (more 0 old) next) ∙ all

pub pairs_end : (pairs : List Containment) (i : ℕ) (old whole : List (List ℕ)) → length pairs ≤ i →
    more 0 old (drop i pairs) ≡ whole → old ≡ whole
pairs_end pairs i old whole h all =
    sym (none_more 0 old) ∙ sym (ap (more 0 old) (drop_of_length-le pairs h)) ∙ all

pub none_turn : (rows : List Row) (n : ℕ) (old new : List (Vec ℕ Global)) (v : Vec ℕ Global) (whole : List (List ℕ)) →
    n < length rows → new ≡ old ++ v ∷ [] → v.items ≡ [] →
    lists old ++ map (λ r. []) (drop n rows) ≡ whole → lists new ++ map (λ r. []) (drop (n + 1) rows) ≡ whole
none_turn rows n old new v whole h is empty all =
    let none : Row → List ℕ = λ r. [] in
    let row = row_there rows n h in
    let next : drop n rows ≡ row.0 ∷ drop (n + 1) rows =
    rows_from rows n row.0 h row.1 ∙ ap (λ j. row.0 ∷ drop j rows) (sym (add-one n)) in
    ap (λ xs. lists xs ++ map none (drop (n + 1) rows)) is
    ∙ ap (λ xs. xs ++ map none (drop (n + 1) rows)) (map-append (λ w. w.items) old (v ∷ []))
    ∙ append_assoc (lists old) (v.items ∷ []) (map none (drop (n + 1) rows))
    ∙ ap (λ x. lists old ++ x ∷ map none (drop (n + 1) rows)) empty
    ∙ sym (ap (λ xs. lists old ++ map none xs) next)
    ∙ all

pub number_taken : (rows : List Row) (n : ℕ) (old new whole : List ℕ) → n < length rows → is_live_at rows n ≡ true →
    new ≡ old ++ n ∷ [] → old ++ of_live (λ m r. m ∷ []) n (drop n rows) ≡ whole →
    new ++ of_live (λ m r. m ∷ []) (n + 1) (drop (n + 1) rows) ≡ whole
number_taken rows n old new whole h live is all =
    let row = row_there rows n h in
    let rest : List ℕ = of_live (λ m r. m ∷ []) (n + 1) (drop (n + 1) rows) in
    ap (λ xs. xs ++ rest) is ∙ append_assoc old (n ∷ []) rest
    ∙ sym (ap (λ xs. old ++ xs) (live_taken (λ m r. m ∷ []) rows n row.0 h row.1 live)) ∙ all

pub number_passed : (rows : List Row) (n : ℕ) (old new whole : List ℕ) → n < length rows → is_live_at rows n ≡ false →
    new ≡ old → old ++ of_live (λ m r. m ∷ []) n (drop n rows) ≡ whole →
    new ++ of_live (λ m r. m ∷ []) (n + 1) (drop (n + 1) rows) ≡ whole
number_passed rows n old new whole h live is all =
    let rest : List ℕ = of_live (λ m r. m ∷ []) (n + 1) (drop (n + 1) rows) in
    ap (λ xs. xs ++ rest) is ∙ sym (ap (λ xs. old ++ xs) (live_passed (λ m r. m ∷ []) rows n h live)) ∙ all

module _ {A : Type 0} (each : ℕ → Row → A) (rows : List Row) (n : ℕ) (old new whole : List A) (h : n < length rows)
    (all : old ++ of_live (λ m r. each m r ∷ []) n (drop n rows) ≡ whole) where
  rest : List A
  rest = of_live (λ m r. each m r ∷ []) (n + 1) (drop (n + 1) rows)

  pub live_turn : (r : Row) → slice_get rows n ≡ Some r → is_live_at rows n ≡ true → new ≡ old ++ each n r ∷ [] →
      new ++ of_live (λ m r. each m r ∷ []) (n + 1) (drop (n + 1) rows) ≡ whole
  unfolding rest
  live_turn r there live is =
      ap (λ xs. xs ++ rest) is ∙ append_assoc old (each n r ∷ []) rest
      ∙ sym (ap (λ xs. old ++ xs) (live_taken (λ m r. each m r ∷ []) rows n r h there live)) ∙ all

  pub dead_turn : is_live_at rows n ≡ false → new ≡ old →
      new ++ of_live (λ m r. each m r ∷ []) (n + 1) (drop (n + 1) rows) ≡ whole
  unfolding rest
  dead_turn live is =
      ap (λ xs. xs ++ rest) is ∙ sym (ap (λ xs. old ++ xs) (live_passed (λ m r. each m r ∷ []) rows n h live)) ∙ all

-- one declaration has one index at most
pub rising_alone : (places : List (Option ℕ)) (n : ℕ) → rising (indexes_at places (n ∷ [])) ≡ option_to_list (index_at places n)
rising_alone places n = elim (index_at places n) as (λ o. rising (option_to_list o ++ []) ≡ option_to_list o) [ None ↦ refl | Some i ↦ refl ]
