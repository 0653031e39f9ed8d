-- What a site that goes on from a history begins with, or why there is none.
use Rattle.std.specs.Prelude.{◌≡◌, ℕ, ◌+◌, ◌≤◌, ◌<◌, List, Result, Ok, Err}
use Rattle.hist_lock.specs.Held.{LockId}
use Rattle.site_core.specs.Events.{Event}
use Rattle.site_core.specs.Resuming.{base_of}
use Rattle.site_core.specs.declared.history.TheConstants.{GREATEST_AUTHOR}
use Rattle.site_core.specs.declared.resume_stop.ResumeStop.{ResumeStop}
use Rattle.site_core.specs.declared.resume_stop.ResumeStop.TheVariants.{Authors, Memory}
use Rattle.shared_site.specs.Shows.{Shared, resumed, IsNew}
use Rattle.shared_site.specs.Known.{Known, first_pass}

module _ {S : Type 0} where
  -- `Authors` exactly where the greatest author is greater than it may be, with this author; else what is said of the
  -- answer, or `Memory`
  abbrev pub ResumesWith : {A : Type 0} → (A → Type 0) → List (Event S) → Result A ResumeStop → Type 0
  ResumesWith P h (Ok answer) = (base_of h ≤ GREATEST_AUTHOR + 1) × P answer
  ResumesWith P h (Err (Authors author)) = (base_of h ≡ author + 1) × (GREATEST_AUTHOR < author)
  ResumesWith P h (Err Memory) = base_of h ≤ GREATEST_AUTHOR + 1

  -- it is the history with its terms, in which no own author has an entry yet
  abbrev pub Goes : List (Event S) → ℕ → Result (Shared S) ResumeStop → Type 0
  Goes h limit result = ResumesWith (λ s. (s ≡ resumed h limit) × IsNew s) h result

  -- the first pass has seen the history, and its author's number comes behind all that are in it
  abbrev pub Resumes : List (Event S) → ℕ → Result (LockId × Known S) ResumeStop → Type 0
  Resumes h limit result = ResumesWith (λ r. r.1 ≡ first_pass r.0 (resumed h limit)) h result
