use Rattle.std.proofs.Common.{arith}
use Rattle.agent_marks.proofs.ArrowLemmas.{arrows_below}
use Rattle.agent_marks.proofs.MarksLemmas.{new_directly}
use Rattle.agent_marks.proofs.marks.Marks.directly_after.Goals as goal

pub new-requires : goal.new-requires
new-requires c =
    arrows_below c.args.count 0 c.args.containers.now c.args.edges.now c.in_ok-arrows.arrows.items
    c.in_ok-arrows.ensures (omega arith) c.requires.below c.requires.edges_below

pub returns : goal.returns
returns c =
    new_directly c.args.count c.args.containers.now c.args.edges.now c.in_ok-arrows.arrows.items c.in_ok-marks.marks
    c.in_ok-arrows.ensures c.in_ok-marks.ensures
