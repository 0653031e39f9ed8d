-- What the rest from the index on adds to what is there, or tells, is what all of it does.
use Rattle.std.proofs.Common.{◌≡◌, map, length}
use Rattle.std.specs.Char.{to_ascii_lowercase}
use Rattle.pp_ops.specs.Members.{occurs}
use Rattle.pp_ops.proofs.membership.occurs.Given as goal

abbrev pub invariant-loop-rest : goal.invariant-loop-rest
invariant-loop-rest l =
    occurs (map to_ascii_lowercase l.text) (map to_ascii_lowercase l.whole)
    ≡ occurs (map to_ascii_lowercase l.text) (map to_ascii_lowercase l.rest)

abbrev pub decreases-loop-rest : goal.decreases-loop-rest
decreases-loop-rest l = length l.rest
