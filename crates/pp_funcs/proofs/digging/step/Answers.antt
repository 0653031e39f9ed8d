-- The members of a list, and the pairs of a hash, as lists.
use Rattle.std.proofs.Common.{arith, refl}
use Rattle.std.proofs.lemmas.Grind.{common_steps}
use Rattle.pp_values.proofs.Lists.{members_of-data_of, pairs_of-entries_of}
use Rattle.pp_funcs.proofs.digging.step.Goals as goal

pub returns-in-List-Int : goal.returns-in-List-Int
returns-in-List-Int c =
    rw (c.in-List-Int.is-0, c.in-List-Int.is-1, members_of-data_of c.in-List-Int.items)
    (grind (arith, common_steps))

pub returns-in-Hash-default : goal.returns-in-Hash-default
returns-in-Hash-default c =
    rw (c.in-Hash-default.is-0, pairs_of-entries_of c.in-Hash-default.pairs, c.get.ensures) refl
