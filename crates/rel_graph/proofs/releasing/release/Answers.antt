use Rattle.std.proofs.Common.{◌≡◌, ℕ, ◌+◌, ◌-◌, ◌<◌, ◌≤◌, List, ◌∷◌, length, drop, get_or, slice_index, subst, arith}
use Rattle.rel_graph.proofs.ReleaseLemmas.{Releasing, drop_at, held, releasing_start, releasing_held, releasing_free}
use Rattle.rel_graph.proofs.releasing.release.Goals as goal
use Rattle.rel_graph.proofs.releasing.release.Goals.{then-left-eq0+in_ok-push, else-left-eq0}

pub loop-target-init : goal.loop-target-init
loop-target-init c = releasing_start c.args.targets.now c.args.waits.now c.args.free.now.items c.requires.enough

pub loop-target-preserved : goal.loop-target-preserved
loop-target-preserved c =
    let all = c.args.targets.now in
    let old = c.args.waits.now in
    let waits = c.loop-target.waits in
    let before = c.args.free.now.items in
    let free = c.loop-target.free.items in
    let rest : List ℕ = drop (c.loop-target.target-index + 1) all in
    let t : ℕ = get_or all c.loop-target.target-index 0 in
    let r : Releasing all (t ∷ rest) old waits before free =
    subst (λ l. Releasing all l old waits before free)
    (drop_at all c.loop-target.target-index c.loop-target-test.true) c.loop-target.invariant in
    let old_within : t < length old = c.requires.within c.loop-target.target-index 0 c.loop-target-test.true in
    let long : length waits ≡ length old = c.loop-target.invariant.long in
    let within : t < length waits = omega (arith, old_within, long) in
    let some : 1 ≤ slice_index waits t = held all rest old waits before free t r old_within in
    let is : (get_or waits t 0 - 1) + 1 ≡ slice_index waits t = omega (arith, some) in
    elim c.if-left-eq0.branch [
      | then-left-eq0+in_ok-push w ↦ rw (w.free-is, w.in_ok-push.ensures.items)
          (releasing_free all rest old waits before free t (get_or waits t 0 - 1) r within is w.if-left-eq0.true)
      | else-left-eq0 w ↦ rw w.free-is
          (releasing_held all rest old waits before free t (get_or waits t 0 - 1) r within is
          (let no = w.if-left-eq0.false in omega (arith, no)))
    ]
