use Rattle.std.proofs.Common.{◌≡◌, ◌∙◌, ℕ, suc, ◌-◌, ◌<◌, length, inl, inr, ap, sym, subst, subst₂, Some, arith}
use Rattle.rel_graph.specs.Before.{Direct}
use Rattle.rel_graph.specs.Distances.{distance, IsStep}
use Rattle.rel_graph.specs.Marks.{Marked}
use Rattle.rel_graph.specs.Visits.{AreVisited}
use Rattle.rel_graph.specs.Ways.{AreWays}
use Rattle.rel_graph.proofs.Best.{Tracing, step_exists, tracing_more, tracing_end}
use Rattle.rel_graph.proofs.Levels.{number_within, written_back}
use Rattle.rel_graph.proofs.TraceLemmas.{no_nearer}
use Rattle.rel_graph.proofs.cycles.trace.Goals as goal

one_less : (n : ℕ) → 0 < n → n ≡ suc (n - 1)
one_less n h = omega arith

pub next_towards-requires-clause-ways : goal.next_towards-requires-clause-ways
next_towards-requires-clause-ways c = subst (λ n. AreWays n c.in_ok-ways.ways)
    (sym (ap length c.deref_mut.ensures.value ∙ c.loop-left.invariant.outer_long)) c.in_ok-ways.ensures.ways

pub next_towards-requires-clause-visited : goal.next_towards-requires-clause-visited
next_towards-requires-clause-visited c = subst₂ (λ a b. AreVisited c.in_ok-ways.ways a b)
    (sym c.deref_mut.ensures.value) (sym c.deref_mut-in-loop-left.ensures.value) c.loop-left.invariant.visited

pub next_towards-requires-clause-farther : goal.next_towards-requires-clause-farther
next_towards-requires-clause-farther c = λ x m e.
    let old : Marked c.loop-left.inner.items x =
    subst (λ a. Marked a x) c.deref_mut-in-loop-left.ensures.value m in
    let h = c.loop-left.invariant.farther x (c.loop-left.left - 1) old e in
    let t = c.loop-left-test.true in
    omega (arith, h, t)

pub next_towards-requires-clause-some : goal.next_towards-requires-clause-some
next_towards-requires-clause-some c =
    let some = step_exists _ _ _ c.requires.distances _ c.requires.far c.loop-left.at (c.loop-left.left - 1)
    (subst (λ n. distance c.args.numbers.now c.loop-left.at ≡ Some n)
    (one_less c.loop-left.left c.loop-left-test.true) c.loop-left.invariant.tracing.far)
    (let n = c.loop-left.invariant.tracing.near in let t = c.loop-left-test.true in omega (arith, n, t)) in (
      some.0,
      subst₂ (λ a b. Direct a b c.loop-left.at some.0) (sym c.in_ok-ways.ensures.containers)
          (sym c.in_ok-ways.ensures.edges) some.1,
      some.2,
    )

pub overflow_cast-at : goal.overflow_cast-at
overflow_cast-at c =
    let w = number_within c.args.numbers.now c.in_ok-next.next _ c.in_ok-next.ensures.step.far in
    let l = c.requires.long in
    let f = c.ranges.count.fits in
    omega (arith, w, l, f)

pub loop-left-preserved : goal.loop-left-preserved
loop-left-preserved c =
    let R : ℕ → ℕ → Type 0 = Direct c.args.containers.now c.args.edges.now in
    let step : IsStep (Direct c.args.containers.now c.args.edges.now) c.args.numbers.now c.loop-left.at
    (c.loop-left.left - 1) c.in_ok-next.next =
    subst₂ (λ a b. IsStep (Direct a b) c.args.numbers.now c.loop-left.at (c.loop-left.left - 1) c.in_ok-next.next)
    c.in_ok-ways.ensures.containers c.in_ok-ways.ensures.edges c.in_ok-next.ensures.step in
    let before : Tracing (Direct c.args.containers.now c.args.edges.now) c.args.goal c.args.numbers.now
    c.args.between c.loop-left.at (suc (c.loop-left.left - 1)) c.loop-left.cycle.items =
    subst (λ n. Tracing (Direct c.args.containers.now c.args.edges.now) c.args.goal c.args.numbers.now
    c.args.between c.loop-left.at n c.loop-left.cycle.items) (one_less c.loop-left.left c.loop-left-test.true)
    c.loop-left.invariant.tracing in
    rw (
      written_back c.loop-left.outer.len c.loop-left.outer.items c.next_towards.new.outer (omega arith),
      written_back c.loop-left.inner.len c.loop-left.inner.items c.next_towards.new.inner (omega arith),
    ) (record {
      at_below = (let w = number_within c.args.numbers.now c.in_ok-next.next _ c.in_ok-next.ensures.step.far in
          let l = c.requires.long in omega (arith, w, l));
      tracing = rw c.in_ok-push-2.ensures.items (tracing_more _ _ _ c.requires.distances _ c.requires.far _ _ _ _
          before step);
      visited = c.in_ok-next.ensures.visited;
      outer_long = c.in_ok-next.ensures.outer ∙ ap length c.deref_mut.ensures.value ∙ c.loop-left.invariant.outer_long;
      inner_long = c.in_ok-next.ensures.inner ∙ ap length c.deref_mut-in-loop-left.ensures.value ∙
          c.loop-left.invariant.inner_long;
      farther = λ x k m e. elim (c.in_ok-next.ensures.found x m) [
        | inl old ↦
            let h = c.loop-left.invariant.farther x k
            (subst (λ a. Marked a x) c.deref_mut-in-loop-left.ensures.value old) e in
            omega (arith, h)
        | inr r ↦
            let h = no_nearer (Direct c.args.containers.now c.args.edges.now) c.args.goal c.args.numbers.now
            c.args.between c.loop-left.at c.loop-left.left x k c.requires.distances c.requires.far
            c.loop-left.invariant.tracing.far c.loop-left.invariant.tracing.near
            (subst₂ (λ a b. Direct a b c.loop-left.at x) c.in_ok-ways.ensures.containers
            c.in_ok-ways.ensures.edges r) e in
            omega (arith, h)
      ];
    })

pub returns : goal.returns
returns c =
    let none : c.loop-left.left ≡ 0 = omega arith in
    tracing_end _ _ _ c.requires.distances _ c.requires.far _ _ (subst
    (λ n. Tracing (Direct c.args.containers.now c.args.edges.now) c.args.goal c.args.numbers.now c.args.between
    c.loop-left.at n c.loop-left.cycle.items) none c.loop-left.invariant.tracing)
