use Rattle.std.proofs.Common.{◌≡◌, length}
use Rattle.pp_values.specs.Rising.{is_rising}
use Rattle.journal_reading.proofs.exports.texts_rise.Given as goal

abbrev pub invariant-loop-left : goal.invariant-loop-left
invariant-loop-left l = is_rising l.left ≡ is_rising l.texts

abbrev pub decreases-loop-left : goal.decreases-loop-left
decreases-loop-left l = length l.left
