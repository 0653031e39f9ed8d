use Rattle.std.proofs.Common.{◌≡◌, ◌<◌, ◌^◌, drop}
use Rattle.pp_lexer.specs.Digits.{value_from}
use Rattle.pp_lexer.proofs.numbers.digits_value.Given as goal

abbrev pub invariant-loop-b : goal.invariant-loop-b
invariant-loop-b l = record { value : value_from l.base l.number (drop l.b-index l.digits) ≡ value_from l.base 0 l.digits; fits : l.number < 2 ^ 63 }
