-- What was written, and what the rest of the kind adds, is what the kind adds.
use Rattle.std.proofs.Common.{◌≡◌, ◌++◌, string_bytes}
use Rattle.pp_values.specs.Words.{kind_text, capitalised_after}
use Rattle.pp_values.proofs.printing.write_kind.Given as goal

abbrev pub invariant-loop-letter : goal.invariant-loop-letter
invariant-loop-letter l =
    string_bytes l.out ++ capitalised_after l.last l.letter-iterator.rest.now ≡ string_bytes l.initial.out ++ kind_text l.kind
