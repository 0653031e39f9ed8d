-- What is kept of the entries that were looked at.
use Rattle.std.specs.Prelude.{◌≡◌, ℕ, suc, ◌≤◌, List, length, slice_get, Some}
use Rattle.std.specs.Arc.{arc_value}
use Rattle.site_core.specs.Counts.{AreCountsOf}
use Rattle.site_core.specs.Events.{Event}
use Rattle.site_core.specs.Sets.{sets_at, site_at}
use Rattle.history_audit.specs.declared.past.Past.{Past}
use Rattle.history_audit.specs.declared.stage.Stage.{Stage}

module _ {S : Type 0} where
  -- the site and the sets after the first k entries
  pub record IsAfter (s : Stage S) (h : List (Event S)) (k : ℕ) : Type 0 where
    pub sets : s.version ≡ sets_at h k
    pub site : site_at h k ≡ Some (arc_value s.site)

  -- the counts are those of the entries h, and there is a stage for each number of them from 1 on
  pub record Keeps (past : Past S) (h : List (Event S)) : Type 0 where
    pub some : 1 ≤ length h
    pub counted : AreCountsOf past.counts h
    pub number : length past.stages.items ≡ length h
    pub shown : (i : ℕ) (s : Stage S) → slice_get past.stages.items i ≡ Some s → IsAfter s h (suc i)
