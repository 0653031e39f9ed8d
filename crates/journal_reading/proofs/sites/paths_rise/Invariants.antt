use Rattle.std.proofs.Common.{◌≡◌, length}
use Rattle.pp_values.specs.Rising.{is_rising}
use Rattle.journal_reading.specs.Journals.{paths_of}
use Rattle.journal_reading.proofs.sites.paths_rise.Given as goal

abbrev pub invariant-loop-left : goal.invariant-loop-left
invariant-loop-left l = is_rising (paths_of l.left) ≡ is_rising (paths_of l.files)

abbrev pub decreases-loop-left : goal.decreases-loop-left
decreases-loop-left l = length l.left
