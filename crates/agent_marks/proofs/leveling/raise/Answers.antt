use Rattle.std.proofs.Common.{◌≡◌, get_or, arith}
use Rattle.std.proofs.lemmas.List.{get_or_default}
use Rattle.agent_marks.proofs.LevelLemmas.{rises_one}
use Rattle.agent_marks.proofs.leveling.raise.Goals as goal

pub returns-then-index-least : goal.returns-then-index-least
returns-then-index-least c =
    let same : get_or c.args.levels.now.items c.args.to c.index.result.now ≡ get_or c.args.levels.now.items c.args.to 0 =
    get_or_default c.args.levels.now.items c.args.to c.index.result.now 0 c.requires.to in
    rises_one c.args.arrows.now c.args.starts.now.items c.args.levels.now.items c.args.from c.args.to c.in_ok-least.least
    c.requires.arrow c.requires.to c.in_ok-least.ensures (omega (arith, same)) (omega arith)
