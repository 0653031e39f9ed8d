use Rattle.std.proofs.Common.{◌≡◌, length}
use Rattle.journal_reading.specs.EntryReading.{digits_from}
use Rattle.journal_reading.proofs.exports.digits_said.Given as goal

abbrev pub invariant-loop-left : goal.invariant-loop-left
invariant-loop-left l = digits_from l.number l.left ≡ digits_from 0 l.digits

abbrev pub decreases-loop-left : goal.decreases-loop-left
decreases-loop-left l = length l.left
