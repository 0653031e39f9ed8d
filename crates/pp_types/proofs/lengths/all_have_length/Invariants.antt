-- What holds is told by the texts from the index on.
use Rattle.std.proofs.Common.{◌≡◌, drop}
use Rattle.std.specs.List.{list_all}
use Rattle.pp_types.specs.Lengths.{has_length}
use Rattle.pp_types.proofs.lengths.all_have_length.Given as goal

abbrev pub invariant-loop-text : goal.invariant-loop-text
invariant-loop-text l = list_all (has_length l.range) l.texts
    ≡ list_all (has_length l.range) (drop l.text-index l.texts)
