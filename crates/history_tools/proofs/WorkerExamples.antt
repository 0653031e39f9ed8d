-- Second rounds of one worker and of two, in a language whose every set is empty.
use Rattle.std.proofs.Common.{◌≡◌, ℕ, [], ◌∷◌, refl}
use Rattle.pp_values.specs.Datum.{hash, no_entries}
use Rattle.site_core.specs.Events.{Event, opens, publishes}
use Rattle.history_tools.specs.SameWorkers.{by_workers}

-- the author's publication of this number from the first k entries
abbrev entry : ℕ → ℕ → ℕ → Event ℕ
entry author call k =
    publishes (record {
      author = author;
      call = call;
      node = 97 ∷ [];
      facts = hash no_entries;
      k = k;
      set = record { items = [] };
    })

-- what the new author made is author 0's, with calls 2 and 3
one_worker : by_workers 1 (opens 7 ∷ entry 0 0 1 ∷ entry 0 1 2 ∷ []) (entry 1 0 3 ∷ entry 1 1 4 ∷ [])
    ≡ entry 0 2 3 ∷ entry 0 3 4 ∷ []
one_worker = refl

-- each of two workers goes on for itself, in whatever order they come
two_workers : by_workers 2 (opens 7 ∷ entry 0 0 1 ∷ entry 1 0 1 ∷ []) (entry 3 0 3 ∷ entry 2 0 3 ∷ entry 3 1 4 ∷ [])
    ≡ entry 1 1 3 ∷ entry 0 1 3 ∷ entry 1 2 4 ∷ []
two_workers = refl

-- of two workers of whom the first one alone had made an entry, the second one begins now
one_of_two : by_workers 1 (opens 7 ∷ entry 0 0 1 ∷ entry 0 1 2 ∷ []) (entry 2 0 3 ∷ entry 1 0 3 ∷ [])
    ≡ entry 1 0 3 ∷ entry 0 2 3 ∷ []
one_of_two = refl
