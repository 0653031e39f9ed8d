-- A run of jobs, told of what the jobs show.
use Rattle.std.proofs.Common.{◌≡◌, ℕ, zero, suc, List, [], ◌∷◌, map, Option, Some, None, option_map, ap, ◌∙◌}
use Rattle.std.specs.List.{AllZip}
use Rattle.work_pool.specs.Supplied.{Supplied, HasRun}

module _ {S J K O : Type 0} (gives : S → Option J → S → Type 0) (promise : J → O → Type 0)
    (gives' : S → Option K → S → Type 0) (promise' : K → O → Type 0) (shown : J → K)
    (given : (s : S) (job : Option J) (t : S) → gives s job t → gives' s (option_map shown job) t)
    (kept : (job : J) (out : O) → promise job out → promise' (shown job) out) where
  supplied_as : (most : ℕ) (s : S) (jobs : List J) (t : S) → Supplied gives most s jobs t →
      Supplied gives' most s (map shown jobs) t
  supplied_as zero s [] t supplied = supplied
  supplied_as zero s (job ∷ jobs) t supplied = absurd supplied
  supplied_as (suc most) s [] t supplied = given s None t supplied
  supplied_as (suc most) s (job ∷ jobs) t supplied =
      (supplied.0, given s (Some job) supplied.0 supplied.1, supplied_as most supplied.0 jobs t supplied.2)

  kept_as : (jobs : List J) (outs : List O) → AllZip promise jobs outs → AllZip promise' (map shown jobs) outs
  kept_as [] [] all = tt
  kept_as [] (out ∷ outs) all = absurd all
  kept_as (job ∷ jobs) [] all = absurd all
  kept_as (job ∷ jobs) (out ∷ outs) all = (kept job out all.0, kept_as jobs outs all.1)

  pub run_as : (most : ℕ) (s : S) (outs : List O) (t : S) → HasRun gives promise most s outs t →
      HasRun gives' promise' most s outs t
  run_as most s outs t run = record {
    jobs = map shown run.jobs;
    supplied = supplied_as most s run.jobs t run.supplied;
    kept = kept_as run.jobs outs run.kept;
  }

-- what each call leaves as it was is so after all of them
name_along : {S J N : Type 0} (gives : S → Option J → S → Type 0) (name : S → N) →
    ((s : S) (job : Option J) (t : S) → gives s job t → name t ≡ name s) →
    (most : ℕ) (s : S) (jobs : List J) (t : S) → Supplied gives most s jobs t → name t ≡ name s
name_along gives name same zero s [] t supplied = ap name supplied
name_along gives name same zero s (job ∷ jobs) t supplied = absurd supplied
name_along gives name same (suc most) s [] t supplied = same s None t supplied
name_along gives name same (suc most) s (job ∷ jobs) t supplied =
    name_along gives name same most supplied.0 jobs t supplied.2 ∙ same s (Some job) supplied.0 supplied.1

pub name_kept : {S J O N : Type 0} (gives : S → Option J → S → Type 0) (promise : J → O → Type 0) (most : ℕ) (s : S)
    (outs : List O) (t : S) → HasRun gives promise most s outs t → (name : S → N) →
    ((a : S) (job : Option J) (b : S) → gives a job b → name b ≡ name a) → name t ≡ name s
name_kept gives promise most s outs t run name same = name_along gives name same most s run.jobs t run.supplied
