use Rattle.std.proofs.Common.{◌≡◌, length}
use Rattle.hiera_config.specs.Sources.{goes_on_name}
use Rattle.hiera_config.proofs.modules.goes_on_name.Given as goal

abbrev pub invariant-loop-left : goal.invariant-loop-left
invariant-loop-left l = goes_on_name l.left ≡ goes_on_name l.name

abbrev pub decreases-loop-left : goal.decreases-loop-left
decreases-loop-left l = length l.left
