-- What was merged are the values from the count on.
use Rattle.std.proofs.Common.{◌≡◌, ◌≤◌, drop, length}
use Rattle.pp_values.specs.Views.{views}
use Rattle.hiera_merge.specs.Merges.{hash_merge}
use Rattle.hiera_merge.proofs.hashing.keyed_lower.Given as goal

abbrev pub invariant-loop-count : goal.invariant-loop-count
invariant-loop-count l = (l.count ≤ length l.lower) × (l.out ≡ hash_merge (views (drop l.count l.lower)))

abbrev pub decreases-loop-count : goal.decreases-loop-count
decreases-loop-count l = l.count
