-- Marks stay.
use Rattle.std.proofs.Common.{◌≡◌, ℕ, zero, suc, List, [], ◌∷◌, ◌++◌, Ok, refl, sym, subst}
use Rattle.std.specs.Prelude.{IsTrue}
use Rattle.pp_values.specs.Settings.{Setting}
use Rattle.res_book.proofs.Growth.{declared-appends}
use Rattle.res_book.specs.Rows.{bound_to, declared, marked, new_row, with_bound, with_change, with_mark}
use Rattle.res_book.specs.declared.mode.Mode.{Mode}
use Rattle.res_book.specs.declared.row.Row.{Row}
use Rattle.res_core.specs.declared.declared.Declared.{Declared}
use Rattle.world_laws.specs.Extends.{MarksStay}

-- one declaration more
marks-append : (rows : List Row) (r : Row) → MarksStay rows (rows ++ r ∷ [])
marks-append [] r n is = absurd cc
marks-append (x ∷ xs) r zero is = is
marks-append (x ∷ xs) r (suc n) is = marks-append xs r n is

pub marks-declared : (d : Declared) (m : Mode) (rows new : List Row) (n : ℕ) → declared d m rows ≡ Ok (n, new) →
    MarksStay rows new
marks-declared d m rows new n is =
    subst (MarksStay rows) (sym (declared-appends d m rows new n is).1) (marks-append rows (new_row d m))

-- one declaration is changed
marks-change : (change : Row → Row) → ((r : Row) → IsTrue r.marked → IsTrue (change r).marked) → (n : ℕ)
    (rows : List Row) → MarksStay rows (with_change change n rows)
marks-change change keeps n [] m is = is
marks-change change keeps zero (r ∷ rs) zero is = keeps r is
marks-change change keeps zero (r ∷ rs) (suc m) is = is
marks-change change keeps (suc n) (r ∷ rs) zero is = is
marks-change change keeps (suc n) (r ∷ rs) (suc m) is = marks-change change keeps n rs m is

pub marks-mark : (n : ℕ) (rows : List Row) → MarksStay rows (with_mark n rows)
marks-mark n rows = marks-change marked (λ r is. refl) n rows

pub marks-bound : (n : ℕ) (settings : List Setting) (rows : List Row) → MarksStay rows (with_bound n settings rows)
marks-bound n settings rows = marks-change (bound_to settings) (λ r is. is) n rows
