-- Jobs that a supply gave, one after another, and what came of them.
use Rattle.std.specs.Prelude.{◌≡◌, ℕ, zero, suc, List, [], ◌∷◌, ◌++◌, reverse, Option, Some, None}
use Rattle.std.specs.List.{AllZip}

module _ {S J : Type 0} (gives : S → Option J → S → Type 0) where
  -- these jobs were given: as many as were wanted at most, or fewer, and then none
  abbrev pub Supplied : ℕ → S → List J → S → Type 0
  Supplied zero s [] s' = s' ≡ s
  Supplied zero s (job ∷ jobs) s' = ⊥
  Supplied (suc most) s [] s' = gives s None s'
  Supplied (suc most) s (job ∷ jobs) s' = (t : S) × gives s (Some job) t × Supplied most t jobs s'

  -- jobs were given, and each result is what the job at its place promises
  pub record HasRun {O : Type 0} (promise : J → O → Type 0) (most : ℕ) (s : S) (results : List O) (s' : S)
      : Type 0 where
    pub jobs : List J
    pub supplied : Supplied most s jobs s'
    pub kept : AllZip promise jobs results

  -- the same where results stood already, and these stand behind them from the last to the first
  pub record HasStacked {O : Type 0} (promise : J → O → Type 0) (most : ℕ) (s : S) (before after : List O)
      (s' : S) : Type 0 where
    pub results : List O
    pub run : HasRun promise most s results s'
    pub after_is : after ≡ before ++ reverse results
