-- What was written, and what the rest of the text adds, is what the text adds.
use Rattle.std.proofs.Common.{◌≡◌, ◌++◌, string_bytes}
use Rattle.pp_values.specs.Words.{escaped}
use Rattle.pp_values.proofs.printing.write_escaped.Given as goal

abbrev pub invariant-loop-letter : goal.invariant-loop-letter
invariant-loop-letter l = string_bytes l.out ++ escaped l.letter-iterator.rest.now ≡ string_bytes l.initial.out ++ escaped l.text
