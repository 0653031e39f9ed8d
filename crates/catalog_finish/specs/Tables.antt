-- What the code within speaks of: the table of what contains classes, and single declarations.
use Rattle.std.specs.Prelude.{ℕ, zero, suc, if◌then◌else◌, List, [], ◌∷◌, ◌++◌, map, Option, None, Some, slice_get}
use Rattle.std.specs.declared.alloc.Global.{Global}
use Rattle.std.specs.declared.vec.Vec.{Vec}
use Rattle.res_book.specs.Rows.{is_live}
use Rattle.res_book.specs.declared.containment.Containment.{Containment}
use Rattle.res_book.specs.declared.row.Row.{Row}
use Rattle.catalog_finish.specs.Layouts.{outers_of}

abbrev pub lists : List (Vec ℕ Global) → List (List ℕ)
lists = map (λ v. v.items)

-- one more in the list of this place, where there is one
abbrev pub put_at : ℕ → ℕ → List (List ℕ) → List (List ℕ)
put_at n x [] = []
put_at zero x (t ∷ ts) = (t ++ x ∷ []) ∷ ts
put_at (suc n) x (t ∷ ts) = t ∷ put_at n x ts

-- the table, from this number on, with what these pairs add
abbrev pub more : ℕ → List (List ℕ) → List Containment → List (List ℕ)
more n [] pairs = []
more n (t ∷ ts) pairs = (t ++ outers_of n pairs) ∷ more (suc n) ts pairs

abbrev pub at_live_row : {A : Type 0} → (ℕ → Row → List A) → ℕ → Option Row → List A
at_live_row each n None = []
at_live_row each n (Some r) = if is_live r then each n r else []

-- what stands for the declaration of this number, where it is live
abbrev pub at_live : {A : Type 0} → (ℕ → Row → List A) → List Row → ℕ → List A
at_live each rows n = at_live_row each n (slice_get rows n)
