-- Each value within another is smaller.
use Rattle.std.proofs.Common.{arith, ap, refl}
use Rattle.pp_values.specs.Sizes.{datum_size, data_size}
use Rattle.pp_values.specs.Falls.{inner_size-data_of}
use Rattle.pp_values.specs.Views.{view}
use Rattle.pp_values.proofs.Inner.{item_falls}
use Rattle.catalog_finish.proofs.targets.+targets.Goals as goal

pub targets-each_target-requires : goal.targets-each_target-requires
targets-each_target-requires t c = (
  omega (
    arith,
    c.decreases,
    ap data_size c.as_slice.ensures,
    ap (λ x. datum_size (view x)) c.in-List.is,
    inner_size-data_of c.in-List.items,
  ),
  tt,
)

pub each_target-targets-requires : goal.each_target-targets-requires
each_target-targets-requires t c =
    (omega (arith, c.decreases, item_falls c.args.items.now _ _ _ refl c.loop-item-test.true c.item-item.is), tt)
