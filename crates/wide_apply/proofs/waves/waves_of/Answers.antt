use Rattle.std.proofs.Common.{sym}
use Rattle.agent_marks.specs.Levels.{level_of}
use Rattle.wide_apply.proofs.waves.waves_of.Goals as goal

pub loop-planned-preserved : goal.loop-planned-preserved
loop-planned-preserved c =
    let wave = level_of c.args.levels.now in
    c.in_ok-put.ensures wave c.loop-planned.yielded (sym c.level-number.ensures)
    (c.in_ok-grow.ensures.divided wave c.loop-planned.yielded c.loop-planned.invariant)
