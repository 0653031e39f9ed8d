-- What the rest from the index on tells is what all of it tells.
use Rattle.std.proofs.Common.{◌≡◌, drop}
use Rattle.hiera_lookup.specs.Look.{is_busy}
use Rattle.hiera_lookup.proofs.busy.is_busy.Given as goal

abbrev pub invariant-loop-other : goal.invariant-loop-other
invariant-loop-other l = is_busy l.busy l.key ≡ is_busy (drop l.other-index l.other-items) l.key
