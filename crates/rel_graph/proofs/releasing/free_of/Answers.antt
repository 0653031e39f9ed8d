use Rattle.std.proofs.Common.{arith}
use Rattle.rel_graph.proofs.FreeLemmas.{skip_sound, skip_all, take_sound, take_all}
use Rattle.rel_graph.proofs.releasing.free_of.Goals as goal
use Rattle.rel_graph.proofs.releasing.free_of.Goals.{then-waits-step-eq0+in_ok-push, else-waits-step-eq0}

pub loop-step-preserved : goal.loop-step-preserved
loop-step-preserved c =
    let s = c.loop-step.invariant in
    elim c.if-waits-step-eq0.branch [
      | then-waits-step-eq0+in_ok-push w ↦ rw (w.free-is, w.in_ok-push.ensures.items) (record {
        sound = take_sound c.args.waits.now c.loop-step.free.items c.loop-step.step s.sound s.all
            w.if-waits-step-eq0.true;
        all = take_all c.args.waits.now c.loop-step.free.items c.loop-step.step s.sound s.all;
      })
      | else-waits-step-eq0 w ↦ rw w.free-is (record {
        sound = skip_sound c.args.waits.now c.loop-step.free.items c.loop-step.step s.sound s.all;
        all = skip_all c.args.waits.now c.loop-step.free.items c.loop-step.step s.sound s.all
            (let no = w.if-waits-step-eq0.false in omega (arith, no));
      })
    ]

pub returns-clause-sound : goal.returns-clause-sound
returns-clause-sound c = λ v h.
    let k = c.loop-step.invariant.sound v h in
    let n = k.0 in
    let end = c.loop-step.auto.step-end in
    (omega (arith, n, end), k.1)
