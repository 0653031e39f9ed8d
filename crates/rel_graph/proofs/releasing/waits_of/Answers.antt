use Rattle.std.proofs.Common.{arith, length-set, ◌∙◌}
use Rattle.rel_graph.proofs.ReleaseLemmas.{count_fits, count_more}
use Rattle.rel_graph.proofs.releasing.waits_of.Goals as goal

pub overflow_add-index_mut : goal.overflow_add-index_mut
overflow_add-index_mut c =
    let s = c.loop-arrow.invariant in
    let few = c.requires.few in
    let fits = count_fits c.args.arrows.now c.args.steps c.loop-arrow.arrow-index c.index_mut.result.now
    c.loop-arrow.waits.items c.loop-arrow-test.true c.requires.below s.long s.counted c.index_mut.ensures.value in
    omega (arith, few, fits)

pub loop-arrow-preserved : goal.loop-arrow-preserved
loop-arrow-preserved c =
    let s = c.loop-arrow.invariant in
    record {
      long = length-set c.loop-arrow.waits.items _ _ ∙ s.long;
      counted = count_more c.args.arrows.now c.args.steps c.loop-arrow.arrow-index c.index_mut.result.now
          c.loop-arrow.waits.items c.loop-arrow-test.true c.requires.below s.long s.counted c.index_mut.ensures.value;
    }
