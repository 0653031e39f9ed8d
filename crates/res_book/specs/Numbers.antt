-- The table by which a declaration is found.
use Rattle.std.specs.Prelude.{◌≡◌, ℕ, ◌&&◌, if◌then◌else◌, List, Option, None, Some, Result, Ok, Err}
use Rattle.std.specs.BTreeMap.{BTreeMap, get}
use Rattle.std.specs.Cmp.Lexicographic.{slice_cmp}
use Rattle.std.specs.Ordering.{nat_cmp}
use Rattle.std.specs.Str.{bytes_eq}
use Rattle.pp_values.specs.declared.memory.Memory.{Memory}

-- the numbers of titles
abbrev pub Titles : Type 0
Titles = BTreeMap (List ℕ) ℕ

-- the titles of kinds
abbrev pub Kinds : Type 0
Kinds = BTreeMap (List ℕ) Titles

abbrev pub number_in : Option Titles → List ℕ → Option ℕ
number_in None title = None
number_in (Some titles) title = get (slice_cmp nat_cmp) titles title

abbrev pub number_at : Kinds → List ℕ → List ℕ → Option ℕ
number_at kinds kind title = number_in (get (slice_cmp nat_cmp) kinds kind) title

-- the titles that are looked up in the second stand in it as in the first, but for this one, which has this number
abbrev pub AddsTitle : List ℕ → ℕ → Option Titles → Option Titles → Type 0
AddsTitle title n old new =
    (t : List ℕ) → number_in new t ≡ (if bytes_eq title t then Some n else number_in old t)

-- the same of kinds and titles
abbrev pub Adds : List ℕ → List ℕ → ℕ → Kinds → Kinds → Type 0
Adds kind title n old new =
    (k t : List ℕ) →
    number_at new k t ≡ (if bytes_eq kind k && bytes_eq title t then Some n else number_at old k t)

-- nothing is found otherwise
abbrev pub Keeps : Kinds → Kinds → Type 0
Keeps old new = (k t : List ℕ) → number_at new k t ≡ number_at old k t

-- a title that had no number has this one, and what is found among the others stays the same; else all does
abbrev pub ClaimsTitle : List ℕ → ℕ → Titles → Titles → Result (Option ℕ) Memory → Type 0
ClaimsTitle title n old new (Ok None) = (number_in (Some old) title ≡ None) × AddsTitle title n (Some old) (Some new)
ClaimsTitle title n old new (Ok (Some earlier)) =
    (number_in (Some old) title ≡ Some earlier) × ((t : List ℕ) → number_in (Some new) t ≡ number_in (Some old) t)
ClaimsTitle title n old new (Err e) = (t : List ℕ) → number_in (Some new) t ≡ number_in (Some old) t

-- the same of kinds and titles
abbrev pub Claims : List ℕ → List ℕ → ℕ → Kinds → Kinds → Result (Option ℕ) Memory → Type 0
Claims kind title n old new (Ok None) = (number_at old kind title ≡ None) × Adds kind title n old new
Claims kind title n old new (Ok (Some earlier)) = (number_at old kind title ≡ Some earlier) × Keeps old new
Claims kind title n old new (Err e) = Keeps old new
