use Rattle.std.proofs.Common.{sym, ◌∙◌}
use Rattle.res_core.proofs.HalvingLemmas.{goes_before, stands_there, goes_behind}
use Rattle.res_core.proofs.attributes.named_in.Goals as goal

pub loop-attribute-preserved-in-Less : goal.loop-attribute-preserved-in-Less
loop-attribute-preserved-in-Less c =
    let h = goes_before c.args.name.now c.loop-attribute.left.now c.split_at.result.0.now c.split_at.result.1.now
    c.in-Some.after.now c.in-Some.attribute.now c.split_at.ensures.by_index.0 c.in-Some.ensures.cases.0
    c.loop-attribute.invariant.rising (sym c.in-Less.ensures) in
    record { rising = h.0; found = h.1 ∙ c.loop-attribute.invariant.found }

pub returns-in-Equal : goal.returns-in-Equal
returns-in-Equal c =
    stands_there c.args.name.now c.loop-attribute.left.now c.split_at.result.0.now c.split_at.result.1.now
    c.in-Some.after.now c.in-Some.attribute.now c.split_at.ensures.by_index.0 c.in-Some.ensures.cases.0
    c.loop-attribute.invariant.rising (sym c.in-Equal.ensures)
    ∙ c.loop-attribute.invariant.found

pub loop-attribute-preserved : goal.loop-attribute-preserved
loop-attribute-preserved c =
    let h = goes_behind c.args.name.now c.loop-attribute.left.now c.split_at.result.0.now c.split_at.result.1.now
    c.in-Some.after.now c.in-Some.attribute.now c.split_at.ensures.by_index.0 c.in-Some.ensures.cases.0
    c.loop-attribute.invariant.rising (sym c.in-Greater.ensures) in
    record { rising = h.0; found = h.1 ∙ c.loop-attribute.invariant.found }
