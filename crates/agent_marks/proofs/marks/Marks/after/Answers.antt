use Rattle.std.proofs.Common.{arith}
use Rattle.agent_marks.proofs.ArrowLemmas.{arrows_below}
use Rattle.agent_marks.proofs.MarksLemmas.{new_after}
use Rattle.agent_marks.proofs.marks.Marks.after.Goals as goal

pub new-requires : goal.new-requires
new-requires c =
    arrows_below c.args.count c.args.count c.args.containers.now c.args.edges.now c.put_through.new.arrows.items
    (c.in_ok-put_through.ensures c.args.containers.now c.args.edges.now c.in_ok-arrows.ensures) (omega arith)
    c.requires.below c.requires.edges_below

pub returns : goal.returns
returns c =
    new_after c.args.count c.args.containers.now c.args.edges.now c.put_through.new.arrows.items c.in_ok-marks.marks
    (c.in_ok-put_through.ensures c.args.containers.now c.args.edges.now c.in_ok-arrows.ensures)
    c.requires.below c.requires.edges_below c.in_ok-marks.ensures
