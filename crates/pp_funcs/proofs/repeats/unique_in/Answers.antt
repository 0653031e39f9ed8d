-- The members of a list, as a list.
use Rattle.std.proofs.Common.{refl}
use Rattle.pp_values.proofs.Lists.{members_of-data_of}
use Rattle.pp_funcs.proofs.repeats.unique_in.Goals as goal

pub returns-in_ok-without_repeats-in-List : goal.returns-in_ok-without_repeats-in-List
returns-in_ok-without_repeats-in-List c =
    rw (
      c.in-List.is,
      members_of-data_of c.in-List.items,
      c.in_ok-without_repeats-in-List.ensures,
      c.as_slice.ensures,
    ) refl
