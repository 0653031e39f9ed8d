use Rattle.std.proofs.Common.{◌≡◌, ℕ, ◌<◌, ◌≤◌, length, slice_index, All, ap, sym, subst, ◌∙◌, arith}
use Rattle.std.specs.declared.vec.Vec.{Vec}
use Rattle.std.specs.declared.alloc.Global.{Global}
use Rattle.rel_graph.specs.Pairs.{AllBelow}
use Rattle.rel_graph.specs.Releases.{times, targets}
use Rattle.rel_graph.proofs.TargetLemmas.{targets_below}
use Rattle.rel_graph.proofs.releasing.finish.Goals as goal

pub release-requires-clause-within : goal.release-requires-clause-within
release-requires-clause-within c =
    let here : c.as_slice.result.now ≡ targets c.args.arrows.now c.args.step = c.as_slice.ensures.value ∙
    ap (λ (w : Vec ℕ Global). w.items) c.index-out-step.is ∙
    c.requires.out c.args.step c.index-out-step.result c.requires.step in
    subst (All (λ t. t < length c.args.waits.now)) (sym here)
    (targets_below c.args.arrows.now c.args.step (length c.args.waits.now)
    (subst (λ m. AllBelow c.args.arrows.now m) (sym c.requires.counts) c.requires.below))

pub release-requires-clause-enough : goal.release-requires-clause-enough
release-requires-clause-enough c = λ v h.
    let here : c.as_slice.result.now ≡ targets c.args.arrows.now c.args.step = c.as_slice.ensures.value ∙
    ap (λ (w : Vec ℕ Global). w.items) c.index-out-step.is ∙
    c.requires.out c.args.step c.index-out-step.result c.requires.step in
    subst (λ ts. times ts v ≤ slice_index c.args.waits.now v) (sym here)
    (c.requires.enough v (let e = c.requires.counts in omega (arith, e, h)))
