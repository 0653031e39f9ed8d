use Rattle.std.proofs.Common.{◌≡◌, arith, ap, refl, map, sym, ◌∙◌}
use Rattle.std.proofs.lemmas.Grind.{common_steps}
use Rattle.pp_values.specs.Datum.{data_of}
use Rattle.pp_values.specs.Views.{view, views}
use Rattle.pp_values.specs.Sizes.{datum_size, data_size, pairs_size}
use Rattle.pp_values.specs.Falls.{inner_size-data_of, entries_size-entries_of}
use Rattle.pp_values.proofs.Inner.{item_falls, pair_falls}
use Rattle.hiera_lookup.specs.Filled.{filled, answer_to}
use Rattle.hiera_lookup.specs.World.{seen}
use Rattle.hiera_lookup.proofs.Lists.{list_filled-data_of}
use Rattle.hiera_lookup.proofs.filling.+fill.Goals as goal

pub fill-fill_list-requires : goal.fill-fill_list-requires
fill-fill_list-requires t c = (
  omega (
    arith,
    c.decreases,
    ap data_size c.as_slice.ensures,
    ap (λ x. datum_size (view x)) c.in-List.is,
    inner_size-data_of c.in-List.items,
  ),
  tt,
)

pub fill-fill_pairs-requires : goal.fill-fill_pairs-requires
fill-fill_pairs-requires t c = (
  omega (
    arith,
    c.decreases,
    ap pairs_size c.as_slice-in-Hash.ensures.pairs,
    ap (λ x. datum_size (view x)) c.in-Hash.is,
    entries_size-entries_of c.in-Hash.pairs,
  ),
  tt,
)

pub fill_list-fill-requires : goal.fill_list-fill-requires
fill_list-fill-requires t c =
    (omega (arith, c.decreases, item_falls c.args.items.now _ _ _ refl c.loop-item-test.true c.item-item.is), tt)

pub fill_pairs-fill-requires : goal.fill_pairs-fill-requires
fill_pairs-fill-requires t c =
    (omega (arith, c.decreases, pair_falls c.args.pairs.now _ _ _ refl c.loop-key-test.true c.loop-key-item.is), tt)

pub fill_pairs-fill-requires-in-loop-key : goal.fill_pairs-fill-requires-in-loop-key
fill_pairs-fill-requires-in-loop-key t c =
    (omega (arith, c.decreases, pair_falls c.args.pairs.now _ _ _ refl c.loop-key-test.true c.loop-key-item.is), tt)

pub fill_list-returns : goal.fill_list-returns
fill_list-returns t c =
    let made : c.in_ok-values.values ≡ map (filled ((seen c.args.world.now).reads) (answer_to c.args.answers.now))
    (views c.args.items.now) =
    grind (arith, common_steps) in
    ap data_of made ∙ sym (list_filled-data_of _ _ _)
