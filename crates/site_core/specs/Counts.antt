-- How many entries of each author are counted.
use Rattle.std.specs.Prelude.{◌≡◌, ℕ, List}
use Rattle.std.specs.Option.{unwrap_or}
use Rattle.std.specs.Ordering.{nat_cmp}
use Rattle.std.specs.BTreeMap.{BTreeMap, get}
use Rattle.site_core.specs.Events.{Event, calls_of}

-- an author without a count has none
abbrev pub count_in : BTreeMap ℕ ℕ → ℕ → ℕ
count_in counts author = unwrap_or (get nat_cmp counts author) 0

-- each author has as many as before
abbrev pub SameCounts : BTreeMap ℕ ℕ → BTreeMap ℕ ℕ → Type 0
SameCounts old new = (author : ℕ) → count_in new author ≡ count_in old author

-- the counts are those of the entries
abbrev pub AreCountsOf : {S : Type 0} → BTreeMap ℕ ℕ → List (Event S) → Type 0
AreCountsOf counts h = (author : ℕ) → count_in counts author ≡ calls_of author h
