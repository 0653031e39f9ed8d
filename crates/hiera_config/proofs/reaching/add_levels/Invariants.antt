-- What was come to so far, with the levels that are left.
use Rattle.hiera_config.specs.Reached.{in_level}
use Rattle.hiera_config.specs.Seen.{seen}
use Rattle.hiera_config.proofs.AddLemmas.{Left}
use Rattle.hiera_config.proofs.reaching.add_levels.Given as goal

abbrev pub invariant-loop-i : goal.invariant-loop-i
invariant-loop-i l =
    Left (in_level l.files (seen l.variables) l.folder) l.levels l.i l.initial.found.items l.found.items
