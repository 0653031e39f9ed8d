-- Containers and numbers of declarations.
use Rattle.std.proofs.Common.{◌≡◌, ℕ, zero, suc, ◌<◌, Bool, true, false, List, [], ◌∷◌, length}
use Rattle.std.proofs.Common.{length-append, refl, ap, arith}
use Rattle.std.proofs.Common.{None, Some, Ok}
use Rattle.std.specs.Prelude.{if◌then◌else◌}
use Rattle.res_core.specs.declared.declared.Declared.{Declared}
use Rattle.res_book.specs.Rows.{declared, is_live_at, is_contained, new_row}
use Rattle.res_book.specs.declared.mode.Mode.{Mode}
use Rattle.res_book.specs.declared.row.Row.{Row}
use Rattle.res_book.proofs.Growth.{declared-appends}
use Rattle.eval_resources.specs.Declaring.{container_in}

-- behind the last row there is none
pub none_there : (rows : List Row) (n : ℕ) → ¬ (n < length rows) → is_live_at rows n ≡ false
none_there [] n outside = refl
none_there (r ∷ rs) zero outside = absurd (outside (omega arith))
none_there (r ∷ rs) (suc n) outside = none_there rs n (λ h. outside (omega arith))

live_if : (b : Bool) (rows : List Row) (n : ℕ) → is_live_at rows n ≡ b →
    is_contained (if b then Some n else None) rows ≡ true
live_if true rows n live = live
live_if false rows n live = refl

-- the container of a new declaration is live
pub contained : (rows : List Row) (n : ℕ) → is_contained (container_in rows n) rows ≡ true
contained rows n = live_if (is_live_at rows n) rows n refl

-- a new declaration has a number of the book
pub numbered : (d : Declared) (m : Mode) (rows new : List Row) (n : ℕ) → declared d m rows ≡ Ok (n, new) →
    n < length new
numbered d m rows new n e =
    let told = declared-appends d m rows new n e in
    let size = length-append rows (new_row d m ∷ []) in
    omega (arith, told.0, ap length told.1, size)
