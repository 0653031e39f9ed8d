-- Each pair of values that is compared within others is smaller.
use Rattle.std.proofs.Common.{arith, ap, refl}
use Rattle.pp_values.specs.Sizes.{datum_size, data_size, pairs_size}
use Rattle.pp_values.specs.Falls.{inner_size-data_of, entries_size-entries_of}
use Rattle.pp_values.specs.Views.{view}
use Rattle.pp_values.proofs.Inner.{item_falls, pair_falls}
use Rattle.pp_ops.proofs.SameLists.{members_same-data_of, entries_same-entries_of}
use Rattle.pp_ops.proofs.sameness.+same.Goals as goal

pub is_same-are_same-requires : goal.is_same-are_same-requires
is_same-are_same-requires t c = (
  omega (
    arith,
    c.decreases,
    ap data_size c.as_slice.ensures,
    ap (λ x. datum_size (view x)) c.in-List-List.is-0,
    inner_size-data_of c.in-List-List.a,
  ),
  tt,
)

pub is_same-have_same-requires : goal.is_same-have_same-requires
is_same-have_same-requires t c = (
  omega (
    arith,
    c.decreases,
    ap pairs_size c.as_slice-in-Hash-Hash.ensures.pairs,
    ap (λ x. datum_size (view x)) c.in-Hash-Hash.is-0,
    entries_size-entries_of c.in-Hash-Hash.a,
  ),
  tt,
)

pub are_same-is_same-requires : goal.are_same-is_same-requires
are_same-is_same-requires t c =
    (omega (arith, c.decreases, item_falls c.args.a.now _ _ _ refl c.loop-i-test.true c.index-a-i.is), tt)

pub have_same-is_same-requires : goal.have_same-is_same-requires
have_same-is_same-requires t c =
    (omega (arith, c.decreases, pair_falls c.args.a.now _ _ _ refl c.loop-i-test.true c.index-a-i.is), tt)

pub is_same-returns-in-List-List : goal.is_same-returns-in-List-List
is_same-returns-in-List-List t c =
    rw (
      c.in-List-List.is-0,
      c.in-List-List.is-1,
      members_same-data_of c.in-List-List.a c.in-List-List.b,
      ← c.as_slice.ensures,
      ← c.as_slice-in-List-List.ensures,
    )
    c.are_same.ensures

pub have_same-is_same-requires-else-not-is_same : goal.have_same-is_same-requires-else-not-is_same
have_same-is_same-requires-else-not-is_same t c =
    (omega (arith, c.decreases, pair_falls c.args.a.now _ _ _ refl c.loop-i-test.true c.index-a-i.is), tt)

pub is_same-returns-in-Hash-Hash : goal.is_same-returns-in-Hash-Hash
is_same-returns-in-Hash-Hash t c =
    rw (
      c.in-Hash-Hash.is-0,
      c.in-Hash-Hash.is-1,
      entries_same-entries_of c.in-Hash-Hash.a c.in-Hash-Hash.b,
      ← c.as_slice-in-Hash-Hash.ensures.pairs,
      ← c.as_slice-in-Hash-Hash-2.ensures.pairs,
    )
    c.have_same.ensures
