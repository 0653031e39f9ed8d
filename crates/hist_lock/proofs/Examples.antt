-- The definitions on small values. An entry is here its author's number, or none.
use Rattle.std.proofs.Common.{◌≡◌, ℕ, ◌+◌, List, [], ◌∷◌, Option, Some, None, slice_get, refl, arith}
use Rattle.list_sums.specs.Counts.{below, times}
use Rattle.hist_lock.specs.Calls.{wrote, has_author, AreCalls, IsLonger}
use Rattle.hist_lock.specs.Held.{Held, LockId, held, first_pass, taking, adding, splitting, split_off, joining}
use Rattle.hist_lock.specs.Views.{first_view, joined}

by : Option ℕ → Option ℕ
by e = e

-- an entry without an author, one of author 0, one of author 1, and one more of author 0
entries : List (Option ℕ)
entries = None ∷ Some 0 ∷ Some 1 ∷ Some 0 ∷ []

counts : times 3 (3 ∷ 1 ∷ 3 ∷ []) ≡ 2
counts = refl

limits : (below 2 1 ≡ 1) × (below 2 2 ≡ 0)
limits = (refl, refl)

-- author 0 wrote the entries at places 1 and 3
own_place : (times 1 (1 ∷ 3 ∷ []) ≡ wrote by (0 ∷ []) (slice_get entries 1)) × (times 2 (1 ∷ 3 ∷ []) ≡ wrote by (0 ∷ []) (slice_get entries 2)) × (times 3 (1 ∷ 3 ∷ []) ≡ wrote by (0 ∷ []) (slice_get entries 3)) × (times 4 (1 ∷ 3 ∷ []) ≡ wrote by (0 ∷ []) (slice_get entries 4))
unfolding by entries
own_place = (refl, refl, refl, refl)

-- a list that leaves out a call, or has one that another wrote, is refused
left_out : AreCalls by (1 ∷ []) (0 ∷ []) entries → ⊥
unfolding by entries
left_out h = let e : ◌≡◌ {A = ℕ} 0 1 = h 3 in omega (arith, e)

not_own : AreCalls by (1 ∷ 2 ∷ 3 ∷ []) (0 ∷ []) entries → ⊥
unfolding by entries
not_own h = let e : ◌≡◌ {A = ℕ} 1 0 = h 2 in omega (arith, e)

-- at the end the entry without an author is nobody's call
all_calls : (has_author by (slice_get entries 0) ≡ 0) × (has_author by (slice_get entries 2) ≡ 1) × (has_author by (slice_get entries 4) ≡ 0)
unfolding by entries
all_calls = (refl, refl, refl)

module _ (lock : LockId) where
  first : Held ℕ
  first = first_pass lock (7 ∷ [])

  -- the first pass is author 0 and splits off authors 1 and 2
  seconds : ((split_off first).author ≡ 1) × ((split_off (splitting first)).author ≡ 2) × ((splitting (splitting first)).room ≡ 65533)
  unfolding first
  seconds = (refl, refl, refl)

  -- an entry that is added at place 1 is a call
  adds : (adding (taking first (7 ∷ [])) (7 ∷ 8 ∷ [])).calls ≡ 1 ∷ []
  unfolding first
  adds = refl

  -- joined again it stands for all authors
  joins : let both : Held ℕ = joining (splitting first) (split_off first) (7 ∷ []) in both.room + held both ≡ 65536
  unfolding first
  joins = refl

-- of two views the longer front is kept, and the shorter one stands beside it
short : List ℕ
short = 1 ∷ []

long : List ℕ
long = 1 ∷ 2 ∷ []

meets : ((joined (first_view short) (first_view long)).front ≡ long) × ((joined (first_view short) (first_view long)).met ≡ short)
unfolding short long
meets = (refl, refl)

-- which of the two is longer, and that the other begins it
longer : IsLonger short long long
unfolding short long
longer = ((λ h. absurd (omega arith)), λ _. (refl, (2 ∷ [], refl)))
