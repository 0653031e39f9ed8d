-- The targets before the index have been looked at.
use Rattle.std.proofs.Common.{◌≡◌, Contains, take}
use Rattle.agent_marks.specs.Levels.{Rises}
use Rattle.agent_marks.proofs.leveling.raise_all.Given as goal

abbrev pub invariant-loop-to : goal.invariant-loop-to
invariant-loop-to l =
    Rises l.arrows l.starts.items (λ u v. (u ≡ l.from) × Contains (take l.to-index l.targets) v) l.rose l.fn.levels.items l.levels.items
