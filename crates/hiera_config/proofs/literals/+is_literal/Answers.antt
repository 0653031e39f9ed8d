-- Each value within another is smaller.
use Rattle.std.proofs.Common.{arith, ap, refl, sym, ◌∙◌}
use Rattle.pp_values.specs.Sizes.{datum_size, data_size, pairs_size}
use Rattle.pp_values.specs.Falls.{inner_size-data_of, entries_size-entries_of}
use Rattle.pp_values.specs.Views.{view}
use Rattle.pp_values.proofs.Inner.{item_falls, pair_falls}
use Rattle.pp_values.specs.Datum.{entries_of}
use Rattle.hiera_config.specs.Literals.{is_literal, are_literal_pairs}
use Rattle.hiera_config.proofs.OptionLemmas.{with_distinct}
use Rattle.hiera_config.proofs.literals.+is_literal.Goals as goal

pub is_literal-are_literal-requires : goal.is_literal-are_literal-requires
is_literal-are_literal-requires t c =
    (omega (arith, c.decreases, ap data_size c.as_slice.ensures, ap (λ x. datum_size (view x)) c.in-List.is, inner_size-data_of c.in-List.items), tt)

pub is_literal-are_literal_pairs-requires : goal.is_literal-are_literal_pairs-requires
is_literal-are_literal_pairs-requires t c =
    (omega (arith, c.decreases, ap pairs_size c.as_slice-in-Hash.ensures.pairs, ap (λ x. datum_size (view x)) c.in-Hash.is, entries_size-entries_of c.in-Hash.pairs), tt)

pub are_literal-is_literal-requires : goal.are_literal-is_literal-requires
are_literal-is_literal-requires t c = (omega (arith, c.decreases, item_falls c.args.items.now _ _ _ refl c.loop-item-test.true c.item-item.is), tt)

pub are_literal_pairs-is_literal-requires : goal.are_literal_pairs-is_literal-requires
are_literal_pairs-is_literal-requires t c = (omega (arith, c.decreases, pair_falls c.args.pairs.now _ _ _ refl c.loop-key-test.true c.loop-key-item.is), tt)

pub are_literal_pairs-is_literal-requires-else-not-is_literal : goal.are_literal_pairs-is_literal-requires-else-not-is_literal
are_literal_pairs-is_literal-requires-else-not-is_literal t c =
    (omega (arith, c.decreases, pair_falls c.args.pairs.now _ _ _ refl c.loop-key-test.true c.loop-key-item.is), tt)

pub is_literal-returns-in-Hash : goal.is_literal-returns-in-Hash
is_literal-returns-in-Hash t c =
    c.are_literal_pairs.ensures
    ∙ ap (λ ps. are_literal_pairs (entries_of ps)) c.as_slice-in-Hash.ensures.pairs
    ∙ with_distinct _ c.in-Hash.pairs c.as_slice-in-Hash.ensures.distinct
    ∙ sym (ap (λ v. is_literal (view v)) c.in-Hash.is)
