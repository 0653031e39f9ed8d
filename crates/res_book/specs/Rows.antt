-- The declarations of one compile, as a list.
use Rattle.std.specs.Prelude.{◌≡◌, ℕ, zero, suc, ◌+◌, ◌-◌, ◌<◌, nat_lt, IsTrue, Bool, true, false, not, ◌&&◌, ◌||◌}
use Rattle.std.specs.Prelude.{if◌then◌else◌, List, [], ◌∷◌, ◌++◌, length, find, slice_get, Option, None, Some}
use Rattle.std.specs.Prelude.{option_map, option_and_then, is_none, Result, Ok, Err, codes}
use Rattle.std.specs.List.{range_with_len}
use Rattle.std.specs.Str.{bytes_eq}
use Rattle.pp_values.specs.Faults.{fault}
use Rattle.pp_values.specs.References.{same_reference}
use Rattle.pp_values.specs.Settings.{Setting}
use Rattle.pp_values.specs.declared.fault.Fault.{Fault}
use Rattle.pp_values.specs.declared.fault.Subject.TheVariants as subject
use Rattle.pp_values.specs.declared.fault.What.TheVariants as what
use Rattle.pp_values.specs.declared.place.Place.{Place}
use Rattle.pp_values.specs.declared.reference.Reference.{Reference}
use Rattle.res_core.specs.NativeTypes.{native_of}
use Rattle.res_core.specs.declared.declared.Declared.{Declared}
use Rattle.res_book.specs.declared.mode.Mode.{Mode}
use Rattle.res_book.specs.declared.mode.Mode.TheVariants as mode
use Rattle.res_book.specs.declared.row.Row.{Row}

-- ---- one declaration

abbrev pub reference_of : Declared → Reference
reference_of d = record { kind = d.item.kind; title = d.item.title }

abbrev pub is_class : Declared → Bool
is_class d = bytes_eq d.item.kind (codes "class")

-- virtual, or exported and so virtual too
abbrev pub is_virtual : Mode → Bool
is_virtual mode.Plain = false
is_virtual mode.Virtual = true
is_virtual mode.Exported = true
is_virtual (mode.Imported node place) = false

abbrev pub is_imported : Mode → Bool
is_imported mode.Plain = false
is_imported mode.Virtual = false
is_imported mode.Exported = false
is_imported (mode.Imported node place) = true

-- a virtual or exported one is live from its mark on, each other from the beginning
abbrev pub is_live : Row → Bool
is_live r = not (is_virtual r.mode) || r.marked

-- what is neither a class nor of a native type is an instance of a definition
abbrev pub is_instance : Declared → Bool
is_instance d = not (is_class d) && is_none (native_of d.item.kind)

-- an instance that is live and was not evaluated
abbrev pub is_pending : Row → Bool
is_pending r = is_live r && (is_instance r.declared && is_none r.bound)

-- ---- by number

abbrev pub item_at : List Row → ℕ → Option Declared
item_at rows n = option_map (λ r. r.declared) (slice_get rows n)

abbrev pub mode_at : List Row → ℕ → Option Mode
mode_at rows n = option_map (λ r. r.mode) (slice_get rows n)

abbrev pub passes : (Row → Bool) → Option Row → Bool
passes test None = false
passes test (Some r) = test r

abbrev pub is_live_at : List Row → ℕ → Bool
is_live_at rows n = passes is_live (slice_get rows n)

-- the parameters that were kept
abbrev pub bound_at : List Row → ℕ → Option (List Setting)
bound_at rows n = option_and_then (λ r. r.bound) (slice_get rows n)

abbrev pub is_pending_at : List Row → ℕ → Bool
is_pending_at rows n = passes is_pending (slice_get rows n)

-- the first pending one from a number on
abbrev pub pending_from : List Row → ℕ → Option ℕ
pending_from rows from = find (is_pending_at rows) (range_with_len from (length rows - from))

abbrev pub next_number : Option ℕ → ℕ
next_number None = 0
next_number (Some n) = n + 1

-- the first pending one behind a declaration, or of all
abbrev pub pending_after : List Row → Option ℕ → Option ℕ
pending_after rows after = pending_from rows (next_number after)

-- ---- by reference

abbrev pub is_named : Reference → Row → Bool
is_named q r = same_reference q (reference_of r.declared)

-- the first declaration of this reference
abbrev pub declared_as : Reference → List Row → Option Row
declared_as q rows = find (is_named q) rows

-- and its number
abbrev pub number_of : Reference → List Row → Option ℕ
number_of q [] = None
number_of q (r ∷ rs) = if is_named q r then Some 0 else option_map suc (number_of q rs)

-- Each declaration is the one that its reference finds, so no two have the same.
pub record AreApart (rows : List Row) : Type 0 where
  pub found : (n : ℕ) (d : Declared) → item_at rows n ≡ Some d → number_of (reference_of d) rows ≡ Some n

-- ---- containers

-- where there is a container, it is a live declaration
abbrev pub is_contained : Option ℕ → List Row → Bool
is_contained None rows = true
is_contained (Some n) rows = is_live_at rows n

-- Each container was declared before what it contains, and is live.
pub record AreContained (rows : List Row) : Type 0 where
  pub before : (n c : ℕ) (d : Declared) → item_at rows n ≡ Some d → d.container ≡ Some c → c < n
  pub live : (n c : ℕ) (d : Declared) → item_at rows n ≡ Some d → d.container ≡ Some c → IsTrue (is_live_at rows c)

-- ---- declaring

abbrev pub limit : ℕ
limit = 65536

abbrev pub is_class_virtual : Declared → Mode → Bool
is_class_virtual d m = is_class d && is_virtual m

-- F26
abbrev pub class_virtual : Declared → Fault
class_virtual d = fault d.at (what.ClassVirtual (subject.Reference (reference_of d)))

-- F14, which names the place of the first
abbrev pub duplicate : Declared → Place → Fault
duplicate d earlier = fault d.at (what.Duplicate (reference_of d) earlier)

-- F28
abbrev pub too_many : Declared → Fault
too_many d = fault d.at what.ResourceLimit

-- it has no mark yet, and was not evaluated
abbrev pub new_row : Declared → Mode → Row
new_row d m = record { declared = d; mode = m; marked = false; bound = None }

-- the next number is that of the new one
abbrev pub declared_last : Declared → Mode → List Row → Result (ℕ × List Row) Fault
declared_last d m rows =
    if nat_lt (length rows) limit then Ok (length rows, rows ++ new_row d m ∷ []) else Err (too_many d)

abbrev pub declared_once : Declared → Mode → Option Row → List Row → Result (ℕ × List Row) Fault
declared_once d m (Some earlier) rows = Err (duplicate d earlier.declared.at)
declared_once d m None rows = declared_last d m rows

-- No class is virtual or exported; a reference is declared once; there are not more than the limit: in this order.
abbrev pub declared : Declared → Mode → List Row → Result (ℕ × List Row) Fault
declared d m rows =
    if is_class_virtual d m
    then Err (class_virtual d)
    else declared_once d m (declared_as (reference_of d) rows) rows

-- ---- what becomes of a declaration

-- the rows with the one of this number changed
abbrev pub with_change : (Row → Row) → ℕ → List Row → List Row
with_change change n [] = []
with_change change zero (r ∷ rs) = change r ∷ rs
with_change change (suc n) (r ∷ rs) = r ∷ with_change change n rs

abbrev pub marked : Row → Row
marked r = record r { marked = true }

abbrev pub with_mark : ℕ → List Row → List Row
with_mark = with_change marked

abbrev pub bound_to : List Setting → Row → Row
bound_to settings r = record r { bound = Some settings }

abbrev pub with_bound : ℕ → List Setting → List Row → List Row
with_bound n settings = with_change (bound_to settings) n
