-- What was found so far and what is left decide, and what was found lies within the bytes so far.
use Rattle.std.proofs.Common.{◌≡◌, ◌+◌, ◌≤◌, None, length}
use Rattle.std.specs.Option.{IfSome}
use Rattle.scope_core.specs.Names.{last_cut}
use Rattle.scope_core.proofs.cutting.last_cut.Given as goal

abbrev pub invariant-loop-rest : goal.invariant-loop-rest
invariant-loop-rest l = record {
  place : last_cut 0 l.name None ≡ last_cut l.at l.rest l.found;
  far : l.at + length l.rest ≡ length l.name;
  within : IfSome l.found (λ p. p + 2 ≤ length l.name);
}

abbrev pub decreases-loop-rest : goal.decreases-loop-rest
decreases-loop-rest l = length l.rest
