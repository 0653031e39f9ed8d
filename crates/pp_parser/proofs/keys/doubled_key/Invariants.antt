use Rattle.pp_parser.proofs.Doubled.{Walked}
use Rattle.pp_parser.proofs.keys.doubled_key.Given as goal

abbrev pub invariant-loop-at : goal.invariant-loop-at
invariant-loop-at l = Walked l.pairs l.at l.texts.keys l.numbers.keys
