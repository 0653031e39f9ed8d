-- Levels are reached at all times.
use Rattle.std.proofs.Common.{◌≡◌, length}
use Rattle.agent_marks.specs.Levels.{Earned}
use Rattle.agent_marks.proofs.leveling.rise_by.Given as goal

abbrev pub invariant-loop-node : goal.invariant-loop-node
invariant-loop-node l = record {
  long : length l.levels.items ≡ length l.fn.levels.items;
  earned : Earned l.arrows l.starts.items l.fn.levels.items → Earned l.arrows l.starts.items l.levels.items;
}
