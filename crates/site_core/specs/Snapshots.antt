-- What a snapshot shows of a history.
use Rattle.std.specs.Prelude.{◌≡◌, ◌≤◌, List, ◌++◌, length, Some}
use Rattle.std.specs.Arc.{arc_value}
use Rattle.site_core.specs.Events.{Event}
use Rattle.site_core.specs.Sets.{sets_at, site_at}
use Rattle.site_core.specs.declared.snapshot.Snapshot.{Snapshot}

-- the snapshot shows the sets and the site after the first k entries of the history
pub record Of {S : Type 0} (s : Snapshot S) (h : List (Event S)) : Type 0 where
  pub some : 1 ≤ s.k
  pub within : s.k ≤ length h
  pub version_is : s.version ≡ sets_at h s.k
  pub site_is : site_at h s.k ≡ Some (arc_value s.site)

-- it goes on showing them when the history grows
abbrev pub SnapshotsStay : Type 0 → Type 0
SnapshotsStay S = (s : Snapshot S) (h more : List (Event S)) → Of s h → Of s (h ++ more)
