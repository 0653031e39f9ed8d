-- The name is not among those that were gone through.
use Rattle.std.proofs.Common.{◌≡◌}
use Rattle.scope_core.specs.Keyed.{keyed}
use Rattle.scope_core.specs.Names.{folded_value_of}
use Rattle.scope_core.proofs.named.Named.get_folded.Given as goal

abbrev pub invariant-loop-other : goal.invariant-loop-other
invariant-loop-other g l = folded_value_of l.name l.self ≡ folded_value_of l.name (keyed l.other-iterator)
