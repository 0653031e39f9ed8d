-- When a history can be gone on with, and by which authors.
use Rattle.std.specs.Prelude.{◌≡◌, ℕ, ◌+◌, ◌≤◌, ◌<◌, max, List, [], ◌∷◌, Option, None, Some, Result, Ok, Err}
use Rattle.site_core.specs.Core.{Core}
use Rattle.site_core.specs.Events.{Event, author_of}
use Rattle.site_core.specs.declared.history.TheConstants.{GREATEST_AUTHOR}
use Rattle.site_core.specs.declared.resume_stop.ResumeStop.{ResumeStop}
use Rattle.site_core.specs.declared.resume_stop.ResumeStop.TheVariants.{Authors, Memory}

-- one more than the author, or 0 where there is none
abbrev pub past_author : Option ℕ → ℕ
past_author None = 0
past_author (Some author) = author + 1

-- one more than the greatest author, or 0 where no entry has one: from there on authors have no entry
abbrev pub base_of : {S : Type 0} → List (Event S) → ℕ
base_of [] = 0
base_of (e ∷ es) = max (past_author (author_of e)) (base_of es)

-- `Authors` exactly where the greatest author is greater than it may be, with this author; else the core with this
-- history and limit, or `Memory`
abbrev pub Resumes : {S : Type 0} → List (Event S) → ℕ → Result (Core S) ResumeStop → Type 0
Resumes h limit (Ok core) =
    (base_of h ≤ GREATEST_AUTHOR + 1) × (core ≡ record { history = h; limit = limit })
Resumes h limit (Err (Authors author)) = (base_of h ≡ author + 1) × (GREATEST_AUTHOR < author)
Resumes h limit (Err Memory) = base_of h ≤ GREATEST_AUTHOR + 1
