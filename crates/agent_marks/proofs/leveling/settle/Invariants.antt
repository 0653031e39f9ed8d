-- Levels are reached at all times, and rise each time.
use Rattle.std.proofs.Common.{◌≡◌, length}
use Rattle.agent_marks.specs.Levels.{Earned, room_above}
use Rattle.agent_marks.proofs.leveling.settle.Given as goal

abbrev pub invariant-loop : goal.invariant-loop
invariant-loop l = record {
  long : length l.levels.items ≡ length l.fn.levels.items;
  earned : Earned l.arrows l.starts.items l.fn.levels.items → Earned l.arrows l.starts.items l.levels.items;
}

abbrev pub decreases-loop : goal.decreases-loop
decreases-loop l = room_above l.levels.items
