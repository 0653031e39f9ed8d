-- Each copy is of a smaller type.
use Rattle.std.proofs.Common.{arith, ap}
use Rattle.pp_values.specs.Sort.{sort_size, arguments_size}
use Rattle.pp_values.specs.SortFalls.{arguments_size-types_arguments}
use Rattle.pp_values.specs.PTypes.{sort, type_argument, member_arguments, entry_arguments}
use Rattle.pp_values.proofs.Inner.{type_falls}
use Rattle.pp_values.proofs.type_copying.+copy_type.Goals as goal

pub copy_entries-copy_type-requires : goal.copy_entries-copy_type-requires
copy_entries-copy_type-requires t c =
    (omega (arith, c.decreases, ap sort_size c.as_type.ensures, ap (λ e. arguments_size (entry_arguments e)) c.in-Some.is), tt)

pub copy_inner-copy_type-requires : goal.copy_inner-copy_type-requires
copy_inner-copy_type-requires t c =
    (omega (arith, c.decreases, ap sort_size c.as_type.ensures, ap (λ o. arguments_size (type_argument o)) c.in-Some.is), tt)

pub copy_members-copy_type-requires : goal.copy_members-copy_type-requires
copy_members-copy_type-requires t c =
    (omega (arith, c.decreases, ap sort_size c.as_type.ensures, ap (λ m. arguments_size (member_arguments m)) c.in-Some.is), tt)

pub copy_types-copy_type-requires : goal.copy_types-copy_type-requires
copy_types-copy_type-requires t c =
    (omega (arith, c.decreases, type_falls _ _ _ _ c.as_slice-item-items.ensures c.loop-item-test.true c.item-item.is), tt)

pub copy_type-copy_types-requires : goal.copy_type-copy_types-requires
copy_type-copy_types-requires t c =
    (omega (arith, c.decreases, ap (λ s. sort_size (sort s)) c.in-Variant.is, arguments_size-types_arguments c.in-Variant.types), tt)

pub copy_type-copy_types-requires-in-Tuple : goal.copy_type-copy_types-requires-in-Tuple
copy_type-copy_types-requires-in-Tuple t c =
    (omega (arith, c.decreases, ap (λ s. sort_size (sort s)) c.in-Tuple.is, arguments_size-types_arguments c.in-Tuple.types), tt)
