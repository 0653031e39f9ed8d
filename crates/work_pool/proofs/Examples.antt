-- The definitions on small values.
use Rattle.std.proofs.Common.{◌≡◌, ℕ, ◌+◌, ◌<◌, ◌≤◌, List, [], ◌∷◌, Some, None, refl, arith}
use Rattle.work_pool.specs.Groups.{run_count, share}
use Rattle.std.specs.Prelude.{Option}
use Rattle.work_pool.specs.Supplied.{Supplied}
use Rattle.work_pool.specs.Seats.{ClaimsId, Claimant, first_seat, Draws, splitting, split_off, joining}

module _ (claims : ClaimsId) where
  first : Claimant
  first = first_seat claims

  second : Claimant
  second = record (split_off first) { numbers = 1 ∷ []; known = 2 }

  -- joined again a seat stands for all seats, and has the numbers of both
  joins : (let both : Claimant = joining (splitting first) second in both.room + both.held ≡ 65536) × ((joining (splitting first) second).numbers ≡ 1 ∷ []) × ((joining (splitting first) second).known ≡ 2)
  unfolding first second
  joins = (refl, refl, refl)

-- two numbers to be drawn
abbrev two : ClaimsId → ClaimsId
two claims = record claims { count = 2 }

abbrev drawn : ClaimsId → List ℕ → ℕ → Claimant
drawn claims numbers known = record (first_seat (two claims)) { numbers = numbers; known = known }

-- number 0 comes first, and only with the seat's own list longer by it
draws : (claims : ClaimsId) → Draws (Some 0) (drawn claims [] 0) (drawn claims (0 ∷ []) 1)
draws claims = (omega arith, omega arith, (λ k d h. absurd (omega arith)), refl)

-- a number comes once
not_again : (claims : ClaimsId) → Draws (Some 0) (drawn claims (0 ∷ []) 1) (drawn claims (0 ∷ 0 ∷ []) 1) → ⊥
not_again claims h = omega (arith, h.1)

-- no number comes from past the end
not_past : (claims : ClaimsId) → Draws (Some 2) (drawn claims (0 ∷ 1 ∷ []) 2) (drawn claims (0 ∷ 1 ∷ 2 ∷ []) 3) → ⊥
not_past claims h = omega (arith, h.0)

-- a draw that gives up while a number is left is refused
not_yet : (claims : ClaimsId) → Draws None (drawn claims (0 ∷ []) 1) (drawn claims (0 ∷ []) 1) → ⊥
not_yet claims h = omega (arith, h.0)

-- jobs on 64 threads: one thread each while there are enough, then even runs
few_jobs : (run_count 5 64 ≡ 5) × (share 5 5 ≡ 1)
few_jobs = (refl, refl)

no_job : (run_count 0 64 ≡ 1) × (share 0 1 ≡ 0)
no_job = (refl, refl)

many_jobs : (run_count 1000 64 ≡ 64) × (share 1000 64 ≡ 16) × (share 65 64 ≡ 2)
many_jobs = (refl, refl, refl)

-- a supply of the numbers from where it stands up to 2, as jobs
abbrev counts : ℕ → Option ℕ → ℕ → Type 0
counts s (Some job) t = (s < 2) × (job ≡ s) × (t ≡ s + 1)
counts s None t = (2 ≤ s) × (t ≡ s)

-- where more are wanted than there are, all come, and then none
all_come : Supplied counts 3 0 (0 ∷ 1 ∷ []) 2
all_come = (1, (omega arith, refl, refl), (2, (omega arith, refl, refl), (omega arith, refl)))

-- where fewer are wanted, these, and no more is asked for
one_wanted : Supplied counts 1 0 (0 ∷ []) 1
one_wanted = (1, (omega arith, refl, refl), refl)

-- none may be passed over, and none comes twice
passed_over : Supplied counts 3 0 (1 ∷ []) 2 → ⊥
passed_over (t, gave, rest) = omega (arith, gave.1)
