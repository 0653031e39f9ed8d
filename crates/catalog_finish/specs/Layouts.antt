-- Where declarations stand in a catalog, and what contains them there.
use Rattle.std.specs.Prelude.{ℕ, suc, ◌==◌, if◌then◌else◌, List, [], ◌∷◌, ◌++◌, Option, None, Some, option_and_then}
use Rattle.std.specs.Prelude.{option_to_list, slice_get, slice_index_or}
use Rattle.std.specs.BTreeSet.{insert_key}
use Rattle.std.specs.Ordering.{nat_cmp}
use Rattle.res_book.specs.Rows.{is_class, is_live}
use Rattle.res_book.specs.declared.containment.Containment.{Containment}
use Rattle.res_book.specs.declared.row.Row.{Row}

-- something for each live declaration, given its number and itself, from this number on
abbrev pub of_live : {A : Type 0} → (ℕ → Row → List A) → ℕ → List Row → List A
of_live each n [] = []
of_live each n (r ∷ rs) = (if is_live r then each n r else []) ++ of_live each (suc n) rs

-- ---- indexes

-- For each declaration its index: the catalog lists the live ones in their order, and no others.
abbrev pub indexes_from : ℕ → List Row → List (Option ℕ)
indexes_from next [] = []
indexes_from next (r ∷ rs) =
    (if is_live r then Some next else None) ∷ indexes_from (if is_live r then suc next else next) rs

abbrev pub indexes : List Row → List (Option ℕ)
indexes rows = indexes_from 0 rows

-- the index of a number; a number of no declaration has none
abbrev pub index_at : List (Option ℕ) → ℕ → Option ℕ
index_at places n = option_and_then (λ o. o) (slice_get places n)

-- those of several numbers
abbrev pub indexes_at : List (Option ℕ) → List ℕ → List ℕ
indexes_at places [] = []
indexes_at places (n ∷ ns) = option_to_list (index_at places n) ++ indexes_at places ns

-- the numbers of the live declarations
abbrev pub live_numbers : List Row → List ℕ
live_numbers rows = of_live (λ n r. n ∷ []) 0 rows

-- ---- containers

abbrev pub with_numbers : List ℕ → List ℕ → List ℕ
with_numbers held [] = held
with_numbers held (n ∷ ns) = with_numbers (insert_key nat_cmp held n) ns

-- in rising order, each once
abbrev pub rising : List ℕ → List ℕ
rising ns = with_numbers [] ns

-- the declarations that contain the one of this number by `contain`
abbrev pub outers_of : ℕ → List Containment → List ℕ
outers_of n [] = []
outers_of n (c ∷ cs) = (if n == c.inner then c.outer ∷ [] else []) ++ outers_of n cs

-- and so for each declaration, from this number on
abbrev pub outers_from : List Containment → ℕ → List Row → List (List ℕ)
outers_from pairs n [] = []
outers_from pairs n (r ∷ rs) = outers_of n pairs ∷ outers_from pairs (suc n) rs

-- For each declaration its index, and those that contain it by `contain`.
pub record Layout : Type 0 where
  pub indexes : List (Option ℕ)
  pub outers : List (List ℕ)

abbrev pub layout_of : List Row → List Containment → Layout
layout_of rows pairs = record { indexes = indexes rows; outers = outers_from pairs 0 rows }

-- A class is in what contains it by `contain`; each other resource in what declares it.
abbrev pub containers : Layout → ℕ → Row → List ℕ
containers l n r = if is_class r.declared then slice_index_or l.outers n [] else option_to_list r.declared.container

-- the indexes of what contains a declaration directly
abbrev pub inside : Layout → ℕ → Row → List ℕ
inside l n r = rising (indexes_at l.indexes (containers l n r))
