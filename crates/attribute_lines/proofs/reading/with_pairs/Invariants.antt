-- What is left decides.
use Rattle.std.proofs.Common.{◌≡◌, length}
use Rattle.pp_values.specs.Views.{pair_views}
use Rattle.attribute_lines.specs.Reading.{splatted}
use Rattle.attribute_lines.proofs.reading.with_pairs.Given as goal

abbrev pub invariant-loop-pair : goal.invariant-loop-pair
invariant-loop-pair l =
    splatted l.fn.done (pair_views l.pairs) l.at ≡ splatted l.all (pair_views l.rest) l.at

abbrev pub decreases-loop-pair : goal.decreases-loop-pair
decreases-loop-pair l = length l.rest
