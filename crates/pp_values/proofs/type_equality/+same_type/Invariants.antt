-- The measures: the size of the first type. The loop: the lists are the same where they are so from the index on.
use Rattle.std.proofs.Common.{◌≡◌, drop}
use Rattle.std.specs.Cmp.Lexicographic.{pointwise}
use Rattle.pp_values.specs.Sort.{same_type, sort_size, sorts_size, arguments_size}
use Rattle.pp_values.specs.PTypes.{sort, sorts, type_argument, member_arguments, entry_arguments}
use Rattle.pp_values.proofs.type_equality.+same_type.Given as goal

abbrev pub decreases-same_type : goal.decreases-same_type
decreases-same_type l = sort_size (sort l.a.now)

abbrev pub decreases-same_inner : goal.decreases-same_inner
decreases-same_inner l = arguments_size (type_argument l.a.now)

abbrev pub decreases-same_members : goal.decreases-same_members
decreases-same_members l = arguments_size (member_arguments l.a.now)

abbrev pub decreases-same_entries : goal.decreases-same_entries
decreases-same_entries l = arguments_size (entry_arguments l.a.now)

abbrev pub decreases-same_types : goal.decreases-same_types
decreases-same_types l = sorts_size (sorts l.a.now)

abbrev pub invariant-same_types-loop-i : goal.invariant-same_types-loop-i
invariant-same_types-loop-i l =
    pointwise same_type (sorts l.a) (sorts l.b) ≡ pointwise same_type (sorts (drop l.i l.a)) (sorts (drop l.i l.b))
