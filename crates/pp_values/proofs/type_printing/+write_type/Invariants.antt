-- The measures: the size of what is printed. The loop: what was written, and what the types from the index on add, is what all of them add.
use Rattle.std.proofs.Common.{◌≡◌, ◌++◌, drop, string_bytes}
use Rattle.pp_values.specs.Sort.{sort_size, sorts_size, arguments_size, types_arguments}
use Rattle.pp_values.specs.SortText.{more_text}
use Rattle.pp_values.specs.PTypes.{sort, sorts, type_argument, member_arguments, entry_arguments}
use Rattle.pp_values.proofs.type_printing.+write_type.Given as goal

abbrev pub decreases-write_type : goal.decreases-write_type
decreases-write_type l = sort_size (sort l.ptype.now)

abbrev pub decreases-write_inner : goal.decreases-write_inner
decreases-write_inner l = arguments_size (type_argument l.inner.now)

abbrev pub decreases-write_members : goal.decreases-write_members
decreases-write_members l = arguments_size (member_arguments l.members.now)

abbrev pub decreases-write_entries : goal.decreases-write_entries
decreases-write_entries l = arguments_size (entry_arguments l.entries.now)

abbrev pub decreases-write_value_type : goal.decreases-write_value_type
decreases-write_value_type l = arguments_size (member_arguments l.value.now)

abbrev pub decreases-write_types : goal.decreases-write_types
decreases-write_types l = sorts_size (sorts l.types.now)

abbrev pub decreases-write_more_types : goal.decreases-write_more_types
decreases-write_more_types l = sorts_size (sorts l.types.now)

abbrev pub invariant-write_more_types-loop-item : goal.invariant-write_more_types-loop-item
invariant-write_more_types-loop-item l =
    string_bytes l.out ++ more_text (types_arguments (sorts (drop l.item-index l.types)))
    ≡ string_bytes l.initial.out ++ more_text (types_arguments (sorts l.types))
