-- The measures: the size of what is copied.
use Rattle.std.proofs.Common.{◌≡◌, take}
use Rattle.pp_values.specs.Sort.{sort_size, sorts_size, arguments_size}
use Rattle.pp_values.specs.PTypes.{sort, sorts, type_argument, member_arguments, entry_arguments}
use Rattle.pp_values.proofs.type_copying.+copy_type.Given as goal

abbrev pub decreases-copy_type : goal.decreases-copy_type
decreases-copy_type l = sort_size (sort l.ptype.now)

abbrev pub decreases-copy_types : goal.decreases-copy_types
decreases-copy_types l = sorts_size l.types.now

abbrev pub decreases-copy_inner : goal.decreases-copy_inner
decreases-copy_inner l = arguments_size (type_argument l.inner.now)

abbrev pub decreases-copy_members : goal.decreases-copy_members
decreases-copy_members l = arguments_size (member_arguments l.members.now)

abbrev pub decreases-copy_entries : goal.decreases-copy_entries
decreases-copy_entries l = arguments_size (entry_arguments l.entries.now)

abbrev pub invariant-copy_types-loop-item : goal.invariant-copy_types-loop-item
invariant-copy_types-loop-item l = l.copies ≡ sorts (take l.item-index l.item-items)
