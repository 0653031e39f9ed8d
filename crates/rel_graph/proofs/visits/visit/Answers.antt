use Rattle.std.proofs.Common.{◌∙◌, ℕ, ◌<◌, [], length, map, Contains, All, ap, sym, subst, subst₂, arith}
use Rattle.std.proofs.lemmas.List.Elements.{All-contains_itself, All-weaker}
use Rattle.rel_graph.specs.Pairs.{AllBelow, flip}
use Rattle.rel_graph.specs.Steps.{AreTargets}
use Rattle.rel_graph.specs.Visits.{IsClosed, Reaching}
use Rattle.rel_graph.specs.Chains.{Paired}
use Rattle.rel_graph.proofs.Below.{paired_below}
use Rattle.rel_graph.proofs.Flips.{below_flip}
use Rattle.rel_graph.proofs.Marking.{marked_within}
use Rattle.rel_graph.proofs.VisitLemmas.{visit_up, visit_down, visit_across, visit_all, visit_sound}
use Rattle.rel_graph.proofs.visits.visit.Goals as goal

pub reach-requires-clause-below : goal.reach-requires-clause-below
reach-requires-clause-below c =
    let w = c.requires.ways in
    subst (λ ps. AllBelow ps (length c.args.outer.now)) (sym (c.as_slice.ensures.value ∙ w.outward))
    (below_flip c.args.ways.now.containers.items (length c.args.outer.now) w.below)

pub reach-requires-clause-long : goal.reach-requires-clause-long
reach-requires-clause-long c = ap length c.as_slice-2.ensures.value ∙ c.requires.ways.up_long

pub reach-requires-clause-out : goal.reach-requires-clause-out
reach-requires-clause-out c = subst₂ (λ ps out. AreTargets ps out) (sym c.as_slice.ensures.value)
    (sym c.as_slice-2.ensures.value) c.requires.ways.up

pub reach-requires-clause-closed : goal.reach-requires-clause-closed
reach-requires-clause-closed c = subst (λ ps. IsClosed ps c.args.outer.now) (sym c.as_slice.ensures.value)
    c.requires.visited.up

pub targets_from-requires-clause-out : goal.targets_from-requires-clause-out
targets_from-requires-clause-out c = subst₂ (λ ps out. AreTargets ps out) (sym c.as_slice-3.ensures.value)
    (sym c.as_slice-4.ensures.value) c.requires.ways.across

pub targets_from-requires-clause-found : goal.targets_from-requires-clause-found
targets_from-requires-clause-found c =
    let news = c.in_ok-found.ensures.news in
    let across = ap length c.as_slice-4.ensures.value ∙ c.requires.ways.across_long in
    let long = news.long in
    subst (λ xs. All (λ x. x < length c.as_slice-4.result.now) xs) (sym c.as_slice-5.ensures.value)
    (All-weaker (Contains c.in_ok-found.found.items) (λ x. x < length c.as_slice-4.result.now)
    (λ x h. (let n = marked_within c.reach.new.marks x (news.marked x h) in omega (arith, n, across, long)))
    c.in_ok-found.found.items (All-contains_itself c.in_ok-found.found.items))

pub reach-requires-2-clause-below : goal.reach-requires-2-clause-below
reach-requires-2-clause-below c = subst₂ (λ ps n. AllBelow ps n) (sym c.as_slice-6.ensures.value) (sym c.requires.long)
    c.requires.ways.below

pub reach-requires-2-clause-long : goal.reach-requires-2-clause-long
reach-requires-2-clause-long c = ap length c.as_slice-7.ensures.value ∙ c.requires.ways.down_long ∙ sym c.requires.long

pub reach-requires-2-clause-out : goal.reach-requires-2-clause-out
reach-requires-2-clause-out c = subst₂ (λ ps out. AreTargets ps out) (sym c.as_slice-6.ensures.value)
    (sym c.as_slice-7.ensures.value) c.requires.ways.down

pub reach-requires-2-clause-start : goal.reach-requires-2-clause-start
reach-requires-2-clause-start c = λ v h.
    let s = c.in_ok-targets.ensures.sound v h in
    let n = (paired_below c.args.ways.now.edges.items (length c.args.outer.now) s.0 v c.requires.ways.edges_below
    (subst (λ ps. Paired ps s.0 v) c.as_slice-3.ensures.value s.2)).1 in
    let e = c.requires.long in
    omega (arith, n, e)

pub reach-requires-2-clause-closed : goal.reach-requires-2-clause-closed
reach-requires-2-clause-closed c = subst (λ ps. IsClosed ps c.args.inner.now) (sym c.as_slice-6.ensures.value)
    c.requires.visited.down

pub returns-clause-long : goal.returns-clause-long
returns-clause-long c = c.in_ok-found.ensures.news.long

pub returns-clause-news : goal.returns-clause-news
returns-clause-news c = c.in_ok-below.ensures.news

pub returns-clause-visited : goal.returns-clause-visited
returns-clause-visited c =
    let C = c.args.ways.now.containers.items in
    let E = c.args.ways.now.edges.items in
    let ups = c.in_ok-found.found.items in
    let ts = c.in_ok-targets.targets.items in
    let downs = c.in_ok-below.below.items in
    let climb : Reaching (map flip C) c.args.outer.now c.args.start.items c.reach.new.marks [] ups =
    subst (λ ps. Reaching ps c.args.outer.now c.args.start.items c.reach.new.marks [] ups)
    (c.as_slice.ensures.value ∙ c.requires.ways.outward) c.in_ok-found.ensures in
    let all : (x y : ℕ) → Contains ups x → Paired E x y → Contains ts y =
    subst₂ (λ xs ps. (x y : ℕ) → Contains xs x → Paired ps x y → Contains ts y)
    c.as_slice-5.ensures.value c.as_slice-3.ensures.value c.in_ok-targets.ensures.all in
    let sound : (y : ℕ) → Contains ts y → (x : ℕ) × Contains ups x × Paired E x y =
    subst₂ (λ xs ps. (y : ℕ) → Contains ts y → (x : ℕ) × Contains xs x × Paired ps x y)
    c.as_slice-5.ensures.value c.as_slice-3.ensures.value c.in_ok-targets.ensures.sound in
    let fall : Reaching C c.args.inner.now ts c.reach-2.new.marks [] downs =
    subst (λ ps. Reaching ps c.args.inner.now ts c.reach-2.new.marks [] downs) c.as_slice-6.ensures.value
    c.in_ok-below.ensures in
    record {
      up = subst (λ ps. IsClosed ps c.reach.new.marks) (sym c.requires.ways.outward) (visit_up C E c.args.start.items
          ups ts downs c.args.outer.now c.reach.new.marks
          c.args.inner.now c.reach-2.new.marks climb all sound c.requires.visited.across fall);
      across = visit_across C E c.args.start.items ups ts downs c.args.outer.now c.reach.new.marks
          c.args.inner.now c.reach-2.new.marks climb all sound c.requires.visited.across fall;
      down = visit_down C E c.args.start.items ups ts downs c.args.outer.now c.reach.new.marks
          c.args.inner.now c.reach-2.new.marks climb all sound c.requires.visited.across fall;
    }

pub returns-clause-all : goal.returns-clause-all
returns-clause-all c =
    let C = c.args.ways.now.containers.items in
    let E = c.args.ways.now.edges.items in
    let ups = c.in_ok-found.found.items in
    let ts = c.in_ok-targets.targets.items in
    let downs = c.in_ok-below.below.items in
    let climb : Reaching (map flip C) c.args.outer.now c.args.start.items c.reach.new.marks [] ups =
    subst (λ ps. Reaching ps c.args.outer.now c.args.start.items c.reach.new.marks [] ups)
    (c.as_slice.ensures.value ∙ c.requires.ways.outward) c.in_ok-found.ensures in
    let all : (x y : ℕ) → Contains ups x → Paired E x y → Contains ts y =
    subst₂ (λ xs ps. (x y : ℕ) → Contains xs x → Paired ps x y → Contains ts y)
    c.as_slice-5.ensures.value c.as_slice-3.ensures.value c.in_ok-targets.ensures.all in
    let sound : (y : ℕ) → Contains ts y → (x : ℕ) × Contains ups x × Paired E x y =
    subst₂ (λ xs ps. (y : ℕ) → Contains ts y → (x : ℕ) × Contains xs x × Paired ps x y)
    c.as_slice-5.ensures.value c.as_slice-3.ensures.value c.in_ok-targets.ensures.sound in
    let fall : Reaching C c.args.inner.now ts c.reach-2.new.marks [] downs =
    subst (λ ps. Reaching ps c.args.inner.now ts c.reach-2.new.marks [] downs) c.as_slice-6.ensures.value
    c.in_ok-below.ensures in
    visit_all C E c.args.start.items ups ts downs c.args.outer.now c.reach.new.marks
    c.args.inner.now c.reach-2.new.marks climb all sound c.requires.visited.across fall

pub returns-clause-sound : goal.returns-clause-sound
returns-clause-sound c =
    let C = c.args.ways.now.containers.items in
    let E = c.args.ways.now.edges.items in
    let ups = c.in_ok-found.found.items in
    let ts = c.in_ok-targets.targets.items in
    let downs = c.in_ok-below.below.items in
    let climb : Reaching (map flip C) c.args.outer.now c.args.start.items c.reach.new.marks [] ups =
    subst (λ ps. Reaching ps c.args.outer.now c.args.start.items c.reach.new.marks [] ups)
    (c.as_slice.ensures.value ∙ c.requires.ways.outward) c.in_ok-found.ensures in
    let all : (x y : ℕ) → Contains ups x → Paired E x y → Contains ts y =
    subst₂ (λ xs ps. (x y : ℕ) → Contains xs x → Paired ps x y → Contains ts y)
    c.as_slice-5.ensures.value c.as_slice-3.ensures.value c.in_ok-targets.ensures.all in
    let sound : (y : ℕ) → Contains ts y → (x : ℕ) × Contains ups x × Paired E x y =
    subst₂ (λ xs ps. (y : ℕ) → Contains ts y → (x : ℕ) × Contains xs x × Paired ps x y)
    c.as_slice-5.ensures.value c.as_slice-3.ensures.value c.in_ok-targets.ensures.sound in
    let fall : Reaching C c.args.inner.now ts c.reach-2.new.marks [] downs =
    subst (λ ps. Reaching ps c.args.inner.now ts c.reach-2.new.marks [] downs) c.as_slice-6.ensures.value
    c.in_ok-below.ensures in
    visit_sound C E c.args.start.items ups ts downs c.args.outer.now c.reach.new.marks
    c.args.inner.now c.reach-2.new.marks climb all sound c.requires.visited.across fall
