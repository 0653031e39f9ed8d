-- A list in runs of neighbours, of which the last run stands first.
use Rattle.std.specs.Prelude.{ℕ, ◌+◌, ◌-◌, ◌/◌, ◌≤◌, min, max, All, length, List, [], ◌∷◌, ◌++◌, Vec, Result, Ok, Err}
use Rattle.std.specs.declared.alloc.Global.{Global}

-- how many runs there are: one for each thread, or for each job where these are fewer, and one at least
abbrev pub run_count : ℕ → ℕ → ℕ
run_count jobs threads = min threads (max jobs 1)

-- an even share of the jobs, rounded up
abbrev pub share : ℕ → ℕ → ℕ
share jobs runs = (jobs + runs - 1) / runs

module _ {A : Type 0} where
  -- no run has more jobs than this
  abbrev pub AreWithin : ℕ → List (Vec A Global) → Type 0
  AreWithin most runs = All (λ run. length run.items ≤ most) runs

  abbrev pub together : List (Vec A Global) → List A
  together [] = []
  together (run ∷ runs) = together runs ++ run.items

  -- the same of runs that may have been refused
  abbrev pub gathered : {X : Type 0} → List (Result (Vec A Global) X) → List A
  gathered [] = []
  gathered (Ok run ∷ runs) = gathered runs ++ run.items
  gathered (Err refused ∷ runs) = gathered runs

  abbrev pub AreOk : {X : Type 0} → List (Result (Vec A Global) X) → Type 0
  AreOk [] = Unit {0}
  AreOk (Ok run ∷ runs) = AreOk runs
  AreOk (Err refused ∷ runs) = ⊥
