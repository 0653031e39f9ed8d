-- The plan of the levels so far, a slot for each.
use Rattle.std.proofs.Common.{◌≡◌, length}
use Rattle.hiera_config.specs.Keeping.{filed}
use Rattle.hiera_config.specs.Planning.{Planned}
use Rattle.hiera_config.proofs.plan.plan_of_levels.Given as goal

abbrev pub invariant-loop-level : goal.invariant-loop-level
invariant-loop-level l =
    Planned (filed l.files.entries) l.folder l.levels l.plan.items × (length l.plan.items ≡ l.level-index)
