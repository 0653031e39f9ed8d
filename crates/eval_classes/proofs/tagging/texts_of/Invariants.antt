-- What the rest from the index on adds to what is there is what all of it adds.
use Rattle.std.proofs.Common.{◌≡◌, ◌++◌, drop, map}
use Rattle.pp_funcs.specs.Lists.{behind}
use Rattle.pp_values.specs.TextOf.{text_of}
use Rattle.eval_classes.proofs.tagging.texts_of.Given as goal

abbrev pub invariant-loop-value : goal.invariant-loop-value
invariant-loop-value l =
    l.texts ++ map text_of (behind (drop l.value-index l.values)) ≡ map text_of (behind l.values)
