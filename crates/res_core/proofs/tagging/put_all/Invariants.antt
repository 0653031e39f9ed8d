use Rattle.std.proofs.Common.{◌≡◌, ◌++◌, map, take}
use Rattle.res_core.specs.TagNames.{lowered}
use Rattle.res_core.proofs.tagging.put_all.Given as goal

abbrev pub invariant-loop-name : goal.invariant-loop-name
invariant-loop-name l = l.all.items ≡ l.initial.all.items ++ map lowered (take l.name-index l.names)
