-- The first pending declaration from a number on.
use Rattle.std.proofs.Common.{◌≡◌, ℕ, suc, Bool, true, false, if◌then◌else◌, List, length, None, Some, ◌+◌, ◌-◌, ◌<◌, ◌≤◌, refl, arith}
use Rattle.res_book.specs.Rows.{is_pending_at, pending_from}
use Rattle.res_book.specs.declared.row.Row.{Row}

this_or_next : (rows : List Row) (n : ℕ) → n < length rows →
    pending_from rows n ≡ (if is_pending_at rows n then Some n else pending_from rows (n + 1))
this_or_next rows n below = let e : length rows - n ≡ suc (length rows - (n + 1)) = omega arith in rw e refl

pub none_from : (rows : List Row) (n : ℕ) → length rows ≤ n → pending_from rows n ≡ None
none_from rows n past = let e : length rows - n ≡ 0 = omega arith in rw e refl

pub not_here : (rows : List Row) (n : ℕ) (b : Bool) → n < length rows → b ≡ is_pending_at rows n → b ≡ false →
    pending_from rows n ≡ pending_from rows (n + 1)
not_here rows n b below is off = rw (this_or_next rows n below, ← is, off) refl

pub here : (rows : List Row) (n : ℕ) (b : Bool) → n < length rows → b ≡ is_pending_at rows n → b ≡ true →
    pending_from rows n ≡ Some n
here rows n b below is on = rw (this_or_next rows n below, ← is, on) refl
