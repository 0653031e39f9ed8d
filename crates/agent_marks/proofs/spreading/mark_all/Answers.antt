use Rattle.std.proofs.Common.{take, sym, subst, arith}
use Rattle.std.proofs.lemmas.List.{take_more}
use Rattle.agent_marks.specs.Nodes.{Pushing}
use Rattle.agent_marks.proofs.spreading.mark_all.Goals as goal

pub loop-target-preserved : goal.loop-target-preserved
loop-target-preserved c =
    let targets = c.args.targets.now in
    let i = c.loop-target.target-index in
    let old = c.args.marks.now.items in
    let before = c.args.stack.now.items in
    record {
      marks = subst (λ l. Pushing old before l c.mark.new.marks.items c.mark.new.stack.items)
          (sym (take_more targets i 0 c.loop-target-test.true))
          (c.mark.ensures.marks before (take i targets) old c.loop-target.invariant.marks);
      capacity = let a = c.loop-target.invariant.capacity in let b = c.mark.ensures.capacity in omega (arith, a, b);
    }
