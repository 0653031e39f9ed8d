-- Each value that is copied within another is smaller.
use Rattle.std.proofs.Common.{arith, ap}
use Rattle.pp_values.specs.Sizes.{datum_size}
use Rattle.pp_values.specs.Falls.{inner_size-data_of, entries_size-entries_of}
use Rattle.pp_values.specs.Views.{view}
use Rattle.pp_values.proofs.Inner.{item_falls, pair_falls}
use Rattle.pp_values.proofs.copying.+copy.Goals as goal

pub copy-copy_values-requires : goal.copy-copy_values-requires
copy-copy_values-requires t c = (omega (arith, c.decreases, ap (λ x. datum_size (view x)) c.in-List.is, inner_size-data_of c.in-List.items), tt)

pub copy-copy_pairs-requires : goal.copy-copy_pairs-requires
copy-copy_pairs-requires t c = (omega (arith, c.decreases, ap (λ x. datum_size (view x)) c.in-Hash.is, entries_size-entries_of c.in-Hash.pairs), tt)

pub copy_values-copy-requires : goal.copy_values-copy-requires
copy_values-copy-requires t c =
    (omega (arith, c.decreases, item_falls _ _ _ _ c.as_slice-item-items.ensures c.loop-item-test.true c.item-item.is), tt)

pub copy_pairs-copy-requires : goal.copy_pairs-copy-requires
copy_pairs-copy-requires t c =
    (omega (arith, c.decreases, pair_falls _ _ _ _ c.as_slice-key-items.ensures.pairs c.loop-key-test.true c.loop-key-item.is), tt)

pub copy_pairs-copy-requires-in-loop-key : goal.copy_pairs-copy-requires-in-loop-key
copy_pairs-copy-requires-in-loop-key t c =
    (omega (arith, c.decreases, pair_falls _ _ _ _ c.as_slice-key-items.ensures.pairs c.loop-key-test.true c.loop-key-item.is), tt)
