-- The pairs so far, and what becomes of what is left. Each turn takes two.
use Rattle.std.proofs.Common.{◌≡◌}
use Rattle.pp_values.specs.Datum.{data_of}
use Rattle.pp_values.specs.Views.{views}
use Rattle.std.specs.Vec.Iter.{into_iter_items, into_iter_len}
use Rattle.json_values.specs.Forms.{in_turn}
use Rattle.json_values.proofs.Items.{hash_so_far}
use Rattle.json_values.proofs.reading.in_turn.Given as goal

abbrev pub invariant-loop-key : goal.invariant-loop-key
invariant-loop-key l = hash_so_far l.pairs.items (in_turn (data_of (views (into_iter_items l.left)))) ≡ in_turn (data_of (views l.fn.items.items))

abbrev pub decreases-loop-key : goal.decreases-loop-key
decreases-loop-key l = into_iter_len l.left
