-- The members of lists, and the pairs of a hash, as lists.
use Rattle.pp_values.proofs.Lists.{members_of-data_of, pairs_of-entries_of}
use Rattle.pp_ops.proofs.accessing.accessed.Goals as goal

pub returns-in-List-List : goal.returns-in-List-List
returns-in-List-List c =
    rw (
      c.in-List-List.is-0,
      c.in-List-List.is-1,
      members_of-data_of c.in-List-List.items,
      members_of-data_of c.in-List-List.list,
      ← c.as_slice.ensures,
      ← c.as_slice-in-List-List.ensures,
    )
    c.of_list.ensures

pub returns-in-Hash-List : goal.returns-in-Hash-List
returns-in-Hash-List c =
    rw (
      c.in-Hash-List.is-0,
      c.in-Hash-List.is-1,
      pairs_of-entries_of c.in-Hash-List.pairs,
      members_of-data_of c.in-Hash-List.list,
      ← c.as_slice-in-Hash-List.ensures,
    )
    c.of_hash.ensures
