use Rattle.std.proofs.Common.{◌≡◌, length}
use Rattle.pp_values.specs.PairLists.{fact_views}
use Rattle.pp_values.specs.Rising.{is_rising}
use Rattle.pp_values.specs.Settings.{setting_names}
use Rattle.journal_reading.proofs.sites.names_rise.Given as goal

abbrev pub invariant-loop-left : goal.invariant-loop-left
invariant-loop-left l = is_rising (setting_names (fact_views l.left)) ≡ is_rising (setting_names (fact_views l.nodes))

abbrev pub decreases-loop-left : goal.decreases-loop-left
decreases-loop-left l = length l.left
