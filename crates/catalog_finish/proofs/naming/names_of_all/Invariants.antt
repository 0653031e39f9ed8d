use Rattle.std.proofs.Common.{◌≡◌, drop}
use Rattle.pp_values.specs.Answers.{in_turn}
use Rattle.catalog_finish.specs.Naming.{name_step, names_of_all}
use Rattle.catalog_finish.proofs.naming.names_of_all.Given as goal

abbrev pub invariant-loop-number : goal.invariant-loop-number
invariant-loop-number l = in_turn (name_step l.lines) l.names (drop l.number l.book) ≡ names_of_all l.lines l.book
