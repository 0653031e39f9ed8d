-- The measures: the size of what is written. The loops: what was written, and what is left from the index on.
use Rattle.std.proofs.Common.{◌≡◌, ◌∷◌, ◌++◌, drop}
use Rattle.json.specs.Token.{begin_array, begin_object}
use Rattle.pp_values.specs.Sizes.{datum_size, data_size, pairs_size}
use Rattle.pp_values.specs.Views.{view, views, pair_views}
use Rattle.json_documents.specs.Tokens.{long_begins}
use Rattle.json_documents.proofs.Outlines.{value_tokens, member_tokens, pair_tokens}
use Rattle.json_documents.proofs.value_output.+value.Given as goal

abbrev pub decreases-write_value : goal.decreases-write_value
decreases-write_value l = datum_size (view l.value.now)

abbrev pub decreases-write_list : goal.decreases-write_list
decreases-write_list l = data_size (views l.items.now)

abbrev pub decreases-write_pairs : goal.decreases-write_pairs
decreases-write_pairs l = pairs_size (pair_views l.pairs.now)

abbrev pub decreases-write_members : goal.decreases-write_members
decreases-write_members l = pairs_size (pair_views l.pairs.now)

abbrev pub invariant-write_list-loop-item : goal.invariant-write_list-loop-item
invariant-write_list-loop-item l =
    l.out ++ value_tokens (drop l.item-index l.items) ≡ l.fn.out ++ begin_array ∷ value_tokens l.items

abbrev pub invariant-write_pairs-loop-key : goal.invariant-write_pairs-loop-key
invariant-write_pairs-loop-key l =
    l.out ++ pair_tokens (drop l.key-index l.pairs) ≡ l.fn.out ++ (long_begins ++ pair_tokens l.pairs)

abbrev pub invariant-write_members-loop-key : goal.invariant-write_members-loop-key
invariant-write_members-loop-key l =
    l.out ++ member_tokens (drop l.key-index l.pairs) ≡ l.fn.out ++ begin_object ∷ member_tokens l.pairs
