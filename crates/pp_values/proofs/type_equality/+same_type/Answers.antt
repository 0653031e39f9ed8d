-- Each pair of types that is compared within others is smaller, and lists are the same where they are so member by member.
use Rattle.std.proofs.Common.{arith, ap, refl}
use Rattle.pp_values.specs.Sort.{sort_size, sorts_size}
use Rattle.pp_values.specs.SortFalls.{arguments_size-types_arguments}
use Rattle.pp_values.specs.PTypes.{sort}
use Rattle.pp_values.proofs.Inner.{type_falls}
use Rattle.pp_values.proofs.SameLists.{same_arguments-types_arguments}
use Rattle.pp_values.proofs.type_equality.+same_type.Goals as goal

pub same_type-same_types-requires : goal.same_type-same_types-requires
same_type-same_types-requires t c =
    (omega (arith, c.decreases, ap sorts_size c.as_slice.ensures, ap (λ s. sort_size (sort s)) c.in-Variant.is, arguments_size-types_arguments c.in-Variant.a), tt)

pub same_type-same_types-requires-in-Tuple-b : goal.same_type-same_types-requires-in-Tuple-b
same_type-same_types-requires-in-Tuple-b t c =
    (omega (arith, c.decreases, ap sorts_size c.as_slice-in-Tuple-b.ensures, ap (λ s. sort_size (sort s)) c.in-Tuple.is, arguments_size-types_arguments c.in-Tuple.a), tt)

pub same_type-returns-in-Variant-b : goal.same_type-returns-in-Variant-b
same_type-returns-in-Variant-b t c =
    rw (c.in-Variant.is, c.in-Variant-b.is, same_arguments-types_arguments c.in-Variant.a c.in-Variant-b.b, ← c.as_slice.ensures, ← c.as_slice-in-Variant-b.ensures)
    c.same_types.ensures

pub same_type-returns-in-Tuple-b : goal.same_type-returns-in-Tuple-b
same_type-returns-in-Tuple-b t c =
    rw (c.in-Tuple.is, c.in-Tuple-b.is, same_arguments-types_arguments c.in-Tuple.a c.in-Tuple-b.b, ← c.as_slice-in-Tuple-b.ensures, ← c.as_slice-in-Tuple-b-2.ensures)
    c.same_types-in-Tuple-b.ensures

pub same_types-same_type-requires : goal.same_types-same_type-requires
same_types-same_type-requires t c =
    (omega (arith, c.decreases, type_falls c.args.a.now _ _ _ refl c.loop-i-test.true c.index-a-i.is), tt)
