-- What the rest from the index on adds to what is there, or tells, is what all of it does.
use Rattle.std.proofs.Common.{◌≡◌, map, drop}
use Rattle.std.specs.Char.{to_ascii_lowercase}
use Rattle.pp_ops.specs.Members.{begins}
use Rattle.pp_ops.proofs.membership.begins.Given as goal

abbrev pub invariant-loop-i : goal.invariant-loop-i
invariant-loop-i l =
    begins (map to_ascii_lowercase l.front) (map to_ascii_lowercase l.text)
    ≡ begins (map to_ascii_lowercase (drop l.i l.front)) (map to_ascii_lowercase (drop l.i l.text))
