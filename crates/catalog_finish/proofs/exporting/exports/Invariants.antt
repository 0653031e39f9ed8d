use Rattle.std.proofs.Common.{◌≡◌, drop}
use Rattle.pp_values.specs.Answers.{in_turn}
use Rattle.catalog_finish.specs.Exporting.{export_step, exports}
use Rattle.catalog_finish.proofs.exporting.exports.Given as goal

abbrev pub invariant-loop-number : goal.invariant-loop-number
invariant-loop-number l =
    in_turn (export_step l.lines) l.exports.items (drop l.number l.book) ≡ exports l.lines l.book
