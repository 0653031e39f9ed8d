-- Which entries of a list some authors wrote. A call is the place of an entry in the list.
use Rattle.std.specs.Prelude.{◌≡◌, ℕ, ◌<◌, ◌≤◌, List, length, Option, Some, None, slice_get}
use mathlib.Core.List.{IsPrefix}
use Rattle.list_sums.specs.Counts.{times}

-- of two lists one begins the other, and the third is the longer one
abbrev pub IsLonger : {E : Type 0} → List E → List E → List E → Type 0
IsLonger one other longer =
    (length other ≤ length one → (longer ≡ one) × IsPrefix other one)
    × (length one < length other → (longer ≡ other) × IsPrefix one other)

-- how often these numbers have this author
abbrev pub stands : List ℕ → Option ℕ → ℕ
stands numbers None = 0
stands numbers (Some a) = times a numbers

abbrev pub count_author : Option ℕ → ℕ
count_author None = 0
count_author (Some a) = 1

module _ {E : Type 0} (author : E → Option ℕ) where
  -- the same of the author of the entry at a place
  abbrev pub wrote : List ℕ → Option E → ℕ
  wrote numbers None = 0
  wrote numbers (Some e) = stands numbers (author e)

  -- the calls are the places of the entries that these authors wrote, each as often as its author stands among them
  abbrev pub AreCalls : List ℕ → List ℕ → List E → Type 0
  AreCalls calls numbers entries = (k : ℕ) → times k calls ≡ wrote numbers (slice_get entries k)

  -- 1 where the entry at a place has an author, else 0
  abbrev pub has_author : Option E → ℕ
  has_author None = 0
  has_author (Some e) = count_author (author e)

  -- the calls are the places of all entries that have an author, each once
  abbrev pub AreAllCalls : List ℕ → List E → Type 0
  AreAllCalls calls entries = (k : ℕ) → times k calls ≡ has_author (slice_get entries k)
