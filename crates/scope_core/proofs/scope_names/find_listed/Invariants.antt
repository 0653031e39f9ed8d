-- The name is not among those that were gone through.
use Rattle.std.proofs.Common.{◌≡◌, drop}
use Rattle.scope_core.specs.Names.{value_of}
use Rattle.scope_core.proofs.scope_names.find_listed.Given as goal

abbrev pub invariant-loop-other : goal.invariant-loop-other
invariant-loop-other l = value_of l.name l.names ≡ value_of l.name (drop l.other-index l.names)
