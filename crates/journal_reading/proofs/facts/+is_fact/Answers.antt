-- Each value within another is smaller.
use Rattle.std.proofs.Common.{arith, ap, refl}
use Rattle.pp_values.specs.Sizes.{datum_size, data_size, pairs_size}
use Rattle.pp_values.specs.Falls.{inner_size-data_of, entries_size-entries_of}
use Rattle.pp_values.specs.Views.{view}
use Rattle.pp_values.proofs.Inner.{item_falls}
use Rattle.journal_reading.proofs.facts.+is_fact.Goals as goal

pub is_fact-are_members-requires : goal.is_fact-are_members-requires
is_fact-are_members-requires t c =
    (omega (arith, c.decreases, ap data_size c.as_slice.ensures, ap (λ x. datum_size (view x)) c.in-List.is, inner_size-data_of c.in-List.items), tt)

pub is_fact-are_pairs-requires : goal.is_fact-are_pairs-requires
is_fact-are_pairs-requires t c =
    (omega (arith, c.decreases, ap pairs_size c.as_slice-in-Hash.ensures.pairs, ap (λ x. datum_size (view x)) c.in-Hash.is, entries_size-entries_of c.in-Hash.pairs), tt)

pub are_members-is_fact-requires : goal.are_members-is_fact-requires
are_members-is_fact-requires t c = (omega (arith, c.decreases, item_falls c.args.items.now _ _ _ refl c.loop-item-test.true c.item-item.is), tt)
