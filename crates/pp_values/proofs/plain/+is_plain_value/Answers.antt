-- Each value within another is smaller.
use Rattle.std.proofs.Common.{arith, ap, refl}
use Rattle.pp_values.specs.Sizes.{datum_size, data_size, pairs_size}
use Rattle.pp_values.specs.Falls.{inner_size-data_of, entries_size-entries_of}
use Rattle.pp_values.specs.Views.{view}
use Rattle.pp_values.proofs.Inner.{item_falls, pair_falls}
use Rattle.pp_values.proofs.plain.+is_plain_value.Goals as goal

pub is_plain_value-are_plain_values-requires : goal.is_plain_value-are_plain_values-requires
is_plain_value-are_plain_values-requires t c =
    (omega (arith, c.decreases, ap data_size c.as_slice.ensures, ap (λ x. datum_size (view x)) c.in-List.is, inner_size-data_of c.in-List.items), tt)

pub is_plain_value-are_plain_pairs-requires : goal.is_plain_value-are_plain_pairs-requires
is_plain_value-are_plain_pairs-requires t c =
    (omega (arith, c.decreases, ap pairs_size c.as_slice-in-Hash.ensures.pairs, ap (λ x. datum_size (view x)) c.in-Hash.is, entries_size-entries_of c.in-Hash.pairs), tt)

pub are_plain_values-is_plain_value-requires : goal.are_plain_values-is_plain_value-requires
are_plain_values-is_plain_value-requires t c = (omega (arith, c.decreases, item_falls c.args.items.now _ _ _ refl c.loop-item-test.true c.item-item.is), tt)

pub are_plain_pairs-is_plain_value-requires : goal.are_plain_pairs-is_plain_value-requires
are_plain_pairs-is_plain_value-requires t c = (omega (arith, c.decreases, pair_falls c.args.pairs.now _ _ _ refl c.loop-key-test.true c.loop-key-item.is), tt)

pub are_plain_pairs-is_plain_value-requires-else-not-is_plain_value : goal.are_plain_pairs-is_plain_value-requires-else-not-is_plain_value
are_plain_pairs-is_plain_value-requires-else-not-is_plain_value t c =
    (omega (arith, c.decreases, pair_falls c.args.pairs.now _ _ _ refl c.loop-key-test.true c.loop-key-item.is), tt)
