-- The measures: the size of what is printed. The loops: what was written, and what the rest adds, is what all of it adds.
use Rattle.std.proofs.Common.{◌≡◌, ◌++◌, drop, string_bytes}
use Rattle.pp_values.specs.Datum.{data_of, entries_of}
use Rattle.pp_values.specs.Sizes.{datum_size, data_size, pairs_size}
use Rattle.pp_values.specs.TextOf.{members_text, entries_text}
use Rattle.pp_values.specs.Views.{view, views, pair_views}
use Rattle.pp_values.proofs.interpolating.+write_value.Given as goal

abbrev pub decreases-write_value : goal.decreases-write_value
decreases-write_value l = datum_size (view l.value.now)

abbrev pub decreases-write_items : goal.decreases-write_items
decreases-write_items l = data_size (views l.items.now)

abbrev pub decreases-write_pairs : goal.decreases-write_pairs
decreases-write_pairs l = pairs_size (pair_views l.pairs.now)

abbrev pub invariant-write_items-loop-i : goal.invariant-write_items-loop-i
invariant-write_items-loop-i l =
    string_bytes l.out ++ members_text l.i (data_of (views (drop l.i l.items)))
    ≡ string_bytes l.initial.out ++ members_text 0 (data_of (views l.items))

abbrev pub invariant-write_pairs-loop-i : goal.invariant-write_pairs-loop-i
invariant-write_pairs-loop-i l =
    string_bytes l.out ++ entries_text l.i (entries_of (pair_views (drop l.i l.pairs)))
    ≡ string_bytes l.initial.out ++ entries_text 0 (entries_of (pair_views l.pairs))
