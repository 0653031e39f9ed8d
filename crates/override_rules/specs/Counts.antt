-- The table of how many defaults there are for a kind.
use Rattle.std.specs.Prelude.{◌≡◌, ℕ, suc, if◌then◌else◌, List, length, unwrap_or, IsSome}
use Rattle.std.specs.BTreeMap.{BTreeMap, get}
use Rattle.std.specs.Cmp.Lexicographic.{slice_cmp}
use Rattle.std.specs.Ordering.{nat_cmp}
use Rattle.std.specs.Str.{bytes_eq}
use Rattle.override_rules.specs.Defaults.{Default, defaults_for}

abbrev pub CountTable : Type 0
CountTable = BTreeMap (List ℕ) ℕ

abbrev pub count_of : CountTable → List ℕ → ℕ
count_of table kind = unwrap_or (get (slice_cmp nat_cmp) table kind) 0

abbrev pub IsOpen : CountTable → List ℕ → Type 0
IsOpen table kind = IsSome (get (slice_cmp nat_cmp) table kind)

abbrev pub KeepsCounts : CountTable → CountTable → Type 0
KeepsCounts old new = (kind : List ℕ) → count_of new kind ≡ count_of old kind

-- one more for this kind
abbrev pub AddsOne : List ℕ → CountTable → CountTable → Type 0
AddsOne counted old new =
    (kind : List ℕ) →
    count_of new kind ≡ (if bytes_eq counted kind then suc (count_of old kind) else count_of old kind)

-- the table has, for each kind, how many there are
abbrev pub CountsKinds : CountTable → List Default → Type 0
CountsKinds table ds = (kind : List ℕ) → count_of table kind ≡ length (defaults_for kind ds)
