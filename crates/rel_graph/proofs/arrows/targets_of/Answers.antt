use Rattle.rel_graph.proofs.TargetLemmas.{still_long, put_at}
use Rattle.rel_graph.proofs.arrows.targets_of.Goals as goal

pub loop-arrow-preserved : goal.loop-arrow-preserved
loop-arrow-preserved c =
    let s = c.loop-arrow.invariant in
    record {
      long = still_long c.loop-arrow.out.items c.args.arrows.now c.loop-arrow.arrow-index c.args.steps
          c.replace-held.new.dest c.push.new.self c.replace-held.result c.index_mut.result.now c.loop-arrow-test.true
          c.requires s.long s.out c.index_mut.ensures.value c.replace-held.ensures.value c.in_ok-push.ensures.items;
      out = λ u d h. put_at c.loop-arrow.out.items c.args.arrows.now c.loop-arrow.arrow-index c.args.steps
          c.replace-held.new.dest c.push.new.self c.replace-held.result c.index_mut.result.now c.loop-arrow-test.true
          c.requires s.long s.out c.index_mut.ensures.value c.replace-held.ensures.value c.in_ok-push.ensures.items u
          d h;
    }
