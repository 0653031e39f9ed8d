-- Each value within a value is smaller.
use Rattle.std.proofs.Common.{arith, ap, refl}
use Rattle.pp_values.specs.Sizes.{datum_size, data_size, pairs_size}
use Rattle.pp_values.specs.Falls.{inner_size-data_of, entries_size-entries_of}
use Rattle.pp_values.specs.Views.{view}
use Rattle.pp_values.proofs.Inner.{item_falls, pair_falls}
use Rattle.hiera_lookup.proofs.asking.+asks.Goals as goal

pub add_asks-add_list-requires : goal.add_asks-add_list-requires
add_asks-add_list-requires t c = (
  omega (
    arith,
    c.decreases,
    ap data_size c.as_slice.ensures,
    ap (λ x. datum_size (view x)) c.in-List.is,
    inner_size-data_of c.in-List.items,
  ),
  tt,
)

pub add_asks-add_pairs-requires : goal.add_asks-add_pairs-requires
add_asks-add_pairs-requires t c = (
  omega (
    arith,
    c.decreases,
    ap pairs_size c.as_slice-in-Hash.ensures.pairs,
    ap (λ x. datum_size (view x)) c.in-Hash.is,
    entries_size-entries_of c.in-Hash.pairs,
  ),
  tt,
)

pub add_list-add_asks-requires : goal.add_list-add_asks-requires
add_list-add_asks-requires t c =
    (omega (arith, c.decreases, item_falls c.args.items.now _ _ _ refl c.loop-item-test.true c.item-item.is), tt)

pub add_pairs-add_asks-requires : goal.add_pairs-add_asks-requires
add_pairs-add_asks-requires t c =
    (omega (arith, c.decreases, pair_falls c.args.pairs.now _ _ _ refl c.loop-key-test.true c.loop-key-item.is), tt)

pub add_pairs-add_asks-requires-in-loop-key : goal.add_pairs-add_asks-requires-in-loop-key
add_pairs-add_asks-requires-in-loop-key t c =
    (omega (arith, c.decreases, pair_falls c.args.pairs.now _ _ _ refl c.loop-key-test.true c.loop-key-item.is), tt)
