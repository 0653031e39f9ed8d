-- Each value that is printed within another is smaller.
use Rattle.std.proofs.Common.{arith, ap, refl}
use Rattle.pp_values.specs.Sizes.{datum_size, data_size, pairs_size}
use Rattle.pp_values.specs.Falls.{inner_size-data_of, entries_size-entries_of}
use Rattle.pp_values.specs.Views.{view}
use Rattle.pp_values.proofs.Inner.{item_falls, pair_falls}
use Rattle.pp_values.proofs.interpolating.+write_value.Goals as goal

pub write_value-write_items-requires : goal.write_value-write_items-requires
write_value-write_items-requires t c =
    (omega (arith, c.decreases, ap data_size c.as_slice.ensures, ap (λ x. datum_size (view x)) c.in-List.is, inner_size-data_of c.in-List.items), tt)

pub write_value-write_pairs-requires : goal.write_value-write_pairs-requires
write_value-write_pairs-requires t c =
    (omega (arith, c.decreases, ap pairs_size c.as_slice-in-Hash.ensures.pairs, ap (λ x. datum_size (view x)) c.in-Hash.is, entries_size-entries_of c.in-Hash.pairs), tt)

pub write_items-write_value-requires : goal.write_items-write_value-requires
write_items-write_value-requires t c =
    (omega (arith, c.decreases, item_falls c.args.items.now _ _ _ refl c.loop-i-test.true c.index-items-i.is), tt)

pub write_pairs-write_value-requires : goal.write_pairs-write_value-requires
write_pairs-write_value-requires t c =
    (omega (arith, c.decreases, pair_falls c.args.pairs.now _ _ _ refl c.loop-i-test.true c.index-pairs-i.is), tt)

pub write_pairs-write_value-requires-in-loop-i : goal.write_pairs-write_value-requires-in-loop-i
write_pairs-write_value-requires-in-loop-i t c =
    (omega (arith, c.decreases, pair_falls c.args.pairs.now _ _ _ refl c.loop-i-test.true c.index-pairs-i.is), tt)
