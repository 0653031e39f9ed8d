-- The turns that were yielded stand in their waves.
use Rattle.agent_marks.specs.Levels.{level_of}
use Rattle.wide_apply.specs.Waves.{IsDivided}
use Rattle.wide_apply.proofs.waves.waves_of.Given as goal

abbrev pub invariant-loop-planned : goal.invariant-loop-planned
invariant-loop-planned l = IsDivided (level_of l.levels) l.yielded l.waves.items
