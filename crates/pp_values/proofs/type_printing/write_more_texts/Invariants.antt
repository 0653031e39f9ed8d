-- What was written, and what the texts from the index on add, is what all of them add.
use Rattle.std.proofs.Common.{◌≡◌, ◌++◌, drop, string_bytes}
use Rattle.pp_values.specs.Sort.{texts_arguments}
use Rattle.pp_values.specs.SortText.{more_text}
use Rattle.pp_values.proofs.type_printing.write_more_texts.Given as goal

abbrev pub invariant-loop-text : goal.invariant-loop-text
invariant-loop-text l =
    string_bytes l.out ++ more_text (texts_arguments (drop l.text-index l.texts)) ≡ string_bytes l.initial.out ++ more_text (texts_arguments l.texts)
