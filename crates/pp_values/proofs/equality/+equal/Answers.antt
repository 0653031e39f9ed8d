-- Each pair of values that is compared within others is smaller.
use Rattle.std.proofs.Common.{arith, ap, refl}
use Rattle.pp_values.specs.Sizes.{datum_size, data_size, pairs_size}
use Rattle.pp_values.specs.Falls.{inner_size-data_of, entries_size-entries_of}
use Rattle.pp_values.specs.Views.{view}
use Rattle.std.proofs.lemmas.Grind.{common_steps}
use Rattle.pp_values.proofs.Lists.{members_equal-data_of, entry_count-entries_of, pairs_of-entries_of}
use Rattle.pp_values.proofs.Inner.{item_falls, pair_falls}
use Rattle.pp_values.proofs.equality.+equal.Goals as goal

pub equal-equal_items-requires : goal.equal-equal_items-requires
equal-equal_items-requires t c =
    (omega (arith, c.decreases, ap data_size c.as_slice.ensures, ap (λ x. datum_size (view x)) c.in-List-List.is-0, inner_size-data_of c.in-List-List.a), tt)

pub equal_items-equal-requires : goal.equal_items-equal-requires
equal_items-equal-requires t c =
    (omega (arith, c.decreases, item_falls c.args.a.now _ _ _ refl c.loop-i-test.true c.index-a-i.is), tt)

pub is_within-equal-requires : goal.is_within-equal-requires
is_within-equal-requires t c =
    (omega (arith, c.decreases, pair_falls c.args.a.now _ _ _ refl c.loop-place-test.true c.index-a-place.is), tt)

pub equal-is_within-requires : goal.equal-is_within-requires
equal-is_within-requires t c =
    (omega (arith, c.decreases, ap pairs_size c.as_slice-then-len.ensures.pairs, ap (λ x. datum_size (view x)) c.in-Hash-Hash.is-0, entries_size-entries_of c.in-Hash-Hash.a), tt)

pub equal-returns-in-List-List : goal.equal-returns-in-List-List
equal-returns-in-List-List t c =
    rw (c.in-List-List.is-0, c.in-List-List.is-1, members_equal-data_of c.in-List-List.a c.in-List-List.b, ← c.as_slice.ensures, ← c.as_slice-in-List-List.ensures)
    c.equal_items.ensures

pub equal-returns-then-len : goal.equal-returns-then-len
equal-returns-then-len t c =
    rw (c.in-Hash-Hash.is-0, c.in-Hash-Hash.is-1, entry_count-entries_of c.in-Hash-Hash.a, entry_count-entries_of c.in-Hash-Hash.b, pairs_of-entries_of c.in-Hash-Hash.b)
    (grind (arith, common_steps))

pub equal-returns-else-len : goal.equal-returns-else-len
equal-returns-else-len t c =
    rw (c.in-Hash-Hash.is-0, c.in-Hash-Hash.is-1, entry_count-entries_of c.in-Hash-Hash.a, entry_count-entries_of c.in-Hash-Hash.b)
    (grind (arith, common_steps))
