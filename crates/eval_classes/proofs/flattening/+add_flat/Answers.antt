-- Each list within the list is smaller.
use Rattle.std.proofs.Common.{arith, ap, refl}
use Rattle.pp_values.specs.Sizes.{datum_size, data_size}
use Rattle.pp_values.specs.Falls.{inner_size-data_of}
use Rattle.pp_values.specs.Views.{view}
use Rattle.pp_values.proofs.Inner.{item_falls}
use Rattle.eval_classes.proofs.flattening.+add_flat.Goals as goal

pub add_flat-requires : goal.add_flat-requires
add_flat-requires t c = (
  omega (
    arith,
    c.decreases,
    ap data_size c.as_slice.ensures,
    ap (λ x. datum_size (view x)) c.in-List.is,
    inner_size-data_of c.in-List.inner,
    item_falls c.args.items.now _ _ _ refl c.loop-item-test.true c.item-item.is,
  ),
  tt,
)
