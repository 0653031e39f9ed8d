-- Each value within another is smaller.
use Rattle.std.proofs.Common.{◌≡◌, arith, ap, ◌∙◌, take_all}
use Rattle.pp_values.specs.Sizes.{datum_size}
use Rattle.pp_values.specs.Falls.{inner_size-data_of, entries_size-entries_of}
use Rattle.pp_values.specs.Keys.{are_distinct}
use Rattle.pp_values.specs.Views.{view, pair_views}
use Rattle.catalog_finish.specs.PlainForms.{plain_pairs}
use Rattle.catalog_finish.proofs.PlainLemmas.{still_distinct}
use Rattle.pp_values.proofs.Inner.{item_falls, pair_falls}
use Rattle.catalog_finish.proofs.plain_values.+plain.Goals as goal

pub plain_copy-plain_items-requires : goal.plain_copy-plain_items-requires
plain_copy-plain_items-requires t c =
    (omega (arith, c.decreases, ap (λ x. datum_size (view x)) c.in-List.is, inner_size-data_of c.in-List.items), tt)

pub plain_copy-plain_hash-requires : goal.plain_copy-plain_hash-requires
plain_copy-plain_hash-requires t c =
    (omega (arith, c.decreases, ap (λ x. datum_size (view x)) c.in-Hash.is, entries_size-entries_of c.in-Hash.pairs), tt)

pub plain_items-plain_copy-requires : goal.plain_items-plain_copy-requires
plain_items-plain_copy-requires t c =
    (omega (arith, c.decreases, item_falls _ _ _ _ c.as_slice-item-items.ensures c.loop-item-test.true c.item-item.is), tt)

pub plain_hash-plain_copy-requires : goal.plain_hash-plain_copy-requires
plain_hash-plain_copy-requires t c =
    (omega (arith, c.decreases, pair_falls _ _ _ _ c.as_slice-key-items.ensures.pairs c.loop-key-test.true c.loop-key-item.is), tt)

pub plain_hash-plain_copy-requires-in-loop-key : goal.plain_hash-plain_copy-requires-in-loop-key
plain_hash-plain_copy-requires-in-loop-key t c =
    (omega (arith, c.decreases, pair_falls _ _ _ _ c.as_slice-key-items.ensures.pairs c.loop-key-test.true c.loop-key-item.is), tt)

pub plain_hash-from_vec-requires : goal.plain_hash-from_vec-requires
plain_hash-from_vec-requires t c =
    let all : pair_views c.loop-key.items.items ≡ plain_pairs c.args.pairs.now =
    c.loop-key.invariant
    ∙ ap (λ xs. plain_pairs (pair_views xs)) (take_all c.loop-key.key-index c.as_slice-key-items.result.now
    (omega (arith, c.loop-key-test.false)))
    ∙ ap plain_pairs c.as_slice-key-items.ensures.pairs in
    ap are_distinct all ∙ still_distinct c.args.pairs.now c.as_slice-key-items.ensures.distinct
