-- Each type that is printed within another is smaller.
use Rattle.std.proofs.Common.{arith, ap, refl}
use Rattle.pp_values.specs.Sort.{sort_size, sorts_size}
use Rattle.pp_values.specs.SortFalls.{arguments_size-types_arguments}
use Rattle.pp_values.specs.PTypes.{sort}
use Rattle.pp_values.proofs.Inner.{type_falls}
use Rattle.pp_values.proofs.type_printing.+write_type.Goals as goal

pub write_more_types-write_type-requires : goal.write_more_types-write_type-requires
write_more_types-write_type-requires t c =
    (omega (arith, c.decreases, type_falls c.args.types.now _ _ _ refl c.loop-item-test.true c.item-item.is), tt)

pub write_type-write_types-requires : goal.write_type-write_types-requires
write_type-write_types-requires t c =
    (omega (arith, c.decreases, ap sorts_size c.as_slice-in-Variant.ensures, ap (λ s. sort_size (sort s)) c.in-Variant.is, arguments_size-types_arguments c.in-Variant.types), tt)

pub write_type-write_types-requires-in-Tuple : goal.write_type-write_types-requires-in-Tuple
write_type-write_types-requires-in-Tuple t c =
    (omega (arith, c.decreases, ap sorts_size c.as_slice-in-Tuple.ensures, ap (λ s. sort_size (sort s)) c.in-Tuple.is, arguments_size-types_arguments c.in-Tuple.types), tt)

pub write_type-returns-in-CatalogEntry : goal.write_type-returns-in-CatalogEntry
write_type-returns-in-CatalogEntry t c = rw c.in-CatalogEntry.is c.write_name-in-CatalogEntry.ensures
