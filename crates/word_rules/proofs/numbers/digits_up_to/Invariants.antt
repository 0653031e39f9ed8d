-- What the digits so far and the digits that are left say is what all of them say.
use Rattle.std.proofs.Common.{◌≡◌, ◌≤◌, drop}
use Rattle.word_rules.specs.Numbers.{digits_from}
use Rattle.word_rules.proofs.numbers.digits_up_to.Given as goal

abbrev pub invariant-loop-digit : goal.invariant-loop-digit
invariant-loop-digit l =
    (digits_from l.most l.number (drop l.digit-index l.digits) ≡ digits_from l.most 0 l.digits) × (l.number ≤ l.most)
