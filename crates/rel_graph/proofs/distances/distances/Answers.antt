use Rattle.std.proofs.Common.{◌≡◌, ◌∙◌, ◌+◌, ◌<◌, ◌≤◌, ℕ, Bool, true, false, [], ◌∷◌, ◌++◌, replicate, rules, inl, inr, true≢false, None, is_some, length, get_or, count_by, not, Contains, All, ap, sym, subst, subst₂, arith}
use Rattle.std.specs.Prelude.{nat_eq}
use Rattle.std.proofs.lemmas.Bool.Decides.{eqb_tells}
use Rattle.std.proofs.lemmas.List.{get_or_read, length-replicate}
use Rattle.std.proofs.lemmas.List.Elements.{All-contains_itself, All-weaker}
use Rattle.std.proofs.lemmas.List.Sums.{count_by-le-length}
use Rattle.rel_graph.specs.Before.{Direct}
use Rattle.rel_graph.specs.Distances.{distance}
use Rattle.rel_graph.specs.Pairs.{AllBelow}
use Rattle.rel_graph.specs.Visits.{AreVisited}
use Rattle.rel_graph.specs.Ways.{AreWays}
use Rattle.rel_graph.proofs.Flips.{below_flip}
use Rattle.rel_graph.proofs.StepOrders.{nothing_left}
use Rattle.rel_graph.proofs.TraceLemmas.{only_one}
use Rattle.rel_graph.proofs.Levels.{Levels, levels_start, visited_start, levels_last, levels_turn, levels_back, turn_room, turn_fewer, turn_within, some_is, written_back}
use Rattle.rel_graph.proofs.distances.distances.Goals as goal

pub ways_of-requires-clause-edges_below : goal.ways_of-requires-clause-edges_below
ways_of-requires-clause-edges_below c = subst (λ es. AllBelow es c.args.count)
    (sym (c.as_slice.ensures.value ∙ c.in_ok-back.ensures)) (below_flip c.args.edges.now c.args.count
    c.requires.edges_below)

pub visit-requires-clause-ways : goal.visit-requires-clause-ways
visit-requires-clause-ways c = subst (λ n. AreWays n c.in_ok-ways.ways)
    (sym (ap length c.deref_mut.ensures.value ∙ c.loop-inner.invariant.outer_long)) c.in_ok-ways.ensures.ways

pub visit-requires-clause-visited : goal.visit-requires-clause-visited
visit-requires-clause-visited c = subst₂ (λ a b. AreVisited c.in_ok-ways.ways a b) (sym c.deref_mut.ensures.value)
    (sym c.deref_mut-in-loop-inner.ensures.value) c.loop-inner.invariant.visited

pub visit-requires-clause-start : goal.visit-requires-clause-start
visit-requires-clause-start c = λ v h.
    let n = c.loop-inner.invariant.within v h in
    let e = ap length c.deref_mut.ensures.value ∙ c.loop-inner.invariant.outer_long in
    omega (arith, n, e)

none_told : (n m : ℕ) (b : Bool) → m ≡ n → b ≡ nat_eq n 0 → b ≡ true → ¬ (0 < m)
none_told n m b len e t h = elim (eqb_tells n 0) [
  | inl same ↦ (let z = same.1 in omega (arith, z, len, h))
  | inr other ↦ true≢false (sym t ∙ e ∙ other.0)
]

some_told : (n m : ℕ) (b : Bool) → m ≡ n → b ≡ nat_eq n 0 → b ≡ false → 0 < m
some_told n m b len e f = elim (eqb_tells n 0) [
  | inl same ↦ absurd (true≢false (sym same.0 ∙ sym e ∙ f))
  | inr other ↦ (let z = other.1 in omega (arith, z, len))
]

pub returns-then-is_empty-clause-distances : goal.returns-then-is_empty-clause-distances
returns-then-is_empty-clause-distances c =
    let C = c.args.containers.now in
    let E = c.args.edges.now in
    let found = c.in_ok-found.found.items in
    let s = c.loop-inner.invariant in
    let es = c.in_ok-ways.ensures.edges ∙ c.as_slice.ensures.value ∙ c.in_ok-back.ensures in
    levels_last C E c.in_ok-ways.ways.containers.items c.in_ok-ways.ways.edges.items c.in_ok-ways.ensures.containers es
    c.loop-inner.numbers.items c.loop-inner.inner.items c.deref_mut-in-loop-inner.result.now c.visit.new.inner
    c.loop-inner.front.items found c.args.goal c.loop-inner.level s.levels c.deref_mut-in-loop-inner.ensures.value
    c.in_ok-found.ensures.news c.in_ok-found.ensures.all c.in_ok-found.ensures.sound
    (nothing_left found (none_told c.in_ok-found.found.len (length found) c.is_empty.result (sym
    c.in_ok-found.found.ok.0)
    c.is_empty.ensures c.if-is_empty.true))

pub number_all-requires : goal.number_all-requires
number_all-requires c =
    let C = c.args.containers.now in
    let E = c.args.edges.now in
    let found = c.in_ok-found.found.items in
    let s = c.loop-inner.invariant in
    let es = c.in_ok-ways.ensures.edges ∙ c.as_slice.ensures.value ∙ c.in_ok-back.ensures in
    let long = ap length c.deref_mut-in-loop-inner-2.ensures.value ∙ s.long in
    subst (All (λ x. x < length c.deref_mut-in-loop-inner-2.result.now)) (sym c.as_slice-in-loop-inner.ensures.value)
    (All-weaker (Contains found) (λ x. x < length c.deref_mut-in-loop-inner-2.result.now)
    (λ x h. (let n = turn_within C E c.in_ok-ways.ways.containers.items c.in_ok-ways.ways.edges.items
    c.in_ok-ways.ensures.containers es
    c.loop-inner.numbers.items c.loop-inner.inner.items c.deref_mut-in-loop-inner.result.now c.visit.new.inner
    c.loop-inner.front.items found c.args.goal c.loop-inner.level s.levels c.deref_mut-in-loop-inner.ensures.value
    c.in_ok-found.ensures.news c.in_ok-found.ensures.all c.in_ok-found.ensures.sound
    c.args.count s.inner_long x h in omega (arith, n, long))) found (All-contains_itself found))

pub returns-then-is_some-clause-distances : goal.returns-then-is_some-clause-distances
returns-then-is_some-clause-distances c =
    let C = c.args.containers.now in
    let E = c.args.edges.now in
    let found = c.in_ok-found.found.items in
    let s = c.loop-inner.invariant in
    let es = c.in_ok-ways.ensures.edges ∙ c.as_slice.ensures.value ∙ c.in_ok-back.ensures in
    let after = c.number_all.new.numbers in
    let whole = written_back c.loop-inner.numbers.len c.loop-inner.numbers.items c.number_all.new.numbers (omega
    arith) in
    let long : length after ≡ c.args.count = omega (arith, c.loop-inner.invariant.long) in
    let read = subst (λ ns. c.index.result.now ≡ get_or ns c.args.goal c.index.result.now) whole c.index.ensures in
    let here : c.index.result.now ≡ distance after c.args.goal =
    get_or_read after c.args.goal c.index.result.now (omega (arith, long, c.requires.goal)) read None in
    let some = some_is (distance after c.args.goal)
    (sym (ap is_some here) ∙ sym c.is_some.ensures ∙ c.if-is_some.true) in
    rw whole (levels_back (Direct C E) after c.visit.new.inner found c.args.goal (c.loop-inner.level + 1)
    (levels_turn C E c.in_ok-ways.ways.containers.items c.in_ok-ways.ways.edges.items c.in_ok-ways.ensures.containers es
    c.loop-inner.numbers.items c.loop-inner.inner.items c.deref_mut-in-loop-inner.result.now c.visit.new.inner
    c.loop-inner.front.items found c.args.goal c.loop-inner.level s.levels c.deref_mut-in-loop-inner.ensures.value
    c.in_ok-found.ensures.news c.in_ok-found.ensures.all c.in_ok-found.ensures.sound
    c.deref_mut-in-loop-inner-2.result.now c.number_all.new.numbers c.as_slice-in-loop-inner.result.now
    c.deref_mut-in-loop-inner-2.ensures.value c.as_slice-in-loop-inner.ensures.value
    c.number_all.ensures.given c.number_all.ensures.kept) some.0 some.1)

pub loop-inner-preserved : goal.loop-inner-preserved
loop-inner-preserved c =
    let C = c.args.containers.now in
    let E = c.args.edges.now in
    let found = c.in_ok-found.found.items in
    let s = c.loop-inner.invariant in
    let es = c.in_ok-ways.ensures.edges ∙ c.as_slice.ensures.value ∙ c.in_ok-back.ensures in
    let some : 0 < length found = some_told c.in_ok-found.found.len (length found) c.is_empty.result
    (sym c.in_ok-found.found.ok.0) c.is_empty.ensures c.if-is_empty.false in
    rw (
      written_back c.loop-inner.numbers.len c.loop-inner.numbers.items c.number_all.new.numbers (omega arith),
      written_back c.loop-inner.outer.len c.loop-inner.outer.items c.visit.new.outer (omega arith),
      written_back c.loop-inner.inner.len c.loop-inner.inner.items c.visit.new.inner (omega arith),
    ) (record {
      levels = levels_turn C E c.in_ok-ways.ways.containers.items c.in_ok-ways.ways.edges.items
          c.in_ok-ways.ensures.containers es
          c.loop-inner.numbers.items c.loop-inner.inner.items c.deref_mut-in-loop-inner.result.now c.visit.new.inner
          c.loop-inner.front.items found c.args.goal c.loop-inner.level s.levels c.deref_mut-in-loop-inner.ensures.value
          c.in_ok-found.ensures.news c.in_ok-found.ensures.all c.in_ok-found.ensures.sound
          c.deref_mut-in-loop-inner-2.result.now c.number_all.new.numbers c.as_slice-in-loop-inner.result.now
          c.deref_mut-in-loop-inner-2.ensures.value c.as_slice-in-loop-inner.ensures.value
          c.number_all.ensures.given c.number_all.ensures.kept;
      visited = c.in_ok-found.ensures.visited;
      long = omega (arith, c.loop-inner.invariant.long);
      outer_long = c.in_ok-found.ensures.long ∙ ap length c.deref_mut.ensures.value ∙ s.outer_long;
      inner_long = c.in_ok-found.ensures.news.long ∙ ap length c.deref_mut-in-loop-inner.ensures.value ∙ s.inner_long;
      within = turn_within C E c.in_ok-ways.ways.containers.items c.in_ok-ways.ways.edges.items
          c.in_ok-ways.ensures.containers es
          c.loop-inner.numbers.items c.loop-inner.inner.items c.deref_mut-in-loop-inner.result.now c.visit.new.inner
          c.loop-inner.front.items found c.args.goal c.loop-inner.level s.levels c.deref_mut-in-loop-inner.ensures.value
          c.in_ok-found.ensures.news c.in_ok-found.ensures.all c.in_ok-found.ensures.sound c.args.count s.inner_long;
      room = turn_room C E c.in_ok-ways.ways.containers.items c.in_ok-ways.ways.edges.items
          c.in_ok-ways.ensures.containers es
          c.loop-inner.numbers.items c.loop-inner.inner.items c.deref_mut-in-loop-inner.result.now c.visit.new.inner
          c.loop-inner.front.items found c.args.goal c.loop-inner.level s.levels c.deref_mut-in-loop-inner.ensures.value
          c.in_ok-found.ensures.news c.in_ok-found.ensures.all c.in_ok-found.ensures.sound c.args.count s.room some;
    })

pub loop-inner-smaller : goal.loop-inner-smaller
loop-inner-smaller c =
    let C = c.args.containers.now in
    let E = c.args.edges.now in
    let found = c.in_ok-found.found.items in
    let s = c.loop-inner.invariant in
    let es = c.in_ok-ways.ensures.edges ∙ c.as_slice.ensures.value ∙ c.in_ok-back.ensures in
    let some : 0 < length found = some_told c.in_ok-found.found.len (length found) c.is_empty.result
    (sym c.in_ok-found.found.ok.0) c.is_empty.ensures c.if-is_empty.false in
    subst (λ m. count_by not m < count_by not c.loop-inner.inner.items)
    (sym (written_back c.loop-inner.inner.len c.loop-inner.inner.items c.visit.new.inner (omega arith)))
    (turn_fewer C E c.in_ok-ways.ways.containers.items c.in_ok-ways.ways.edges.items c.in_ok-ways.ensures.containers es
    c.loop-inner.numbers.items c.loop-inner.inner.items c.deref_mut-in-loop-inner.result.now c.visit.new.inner
    c.loop-inner.front.items found c.args.goal c.loop-inner.level s.levels c.deref_mut-in-loop-inner.ensures.value
    c.in_ok-found.ensures.news c.in_ok-found.ensures.all c.in_ok-found.ensures.sound some)

pub overflow_add-level : goal.overflow_add-level
overflow_add-level c =
    let C = c.args.containers.now in
    let E = c.args.edges.now in
    let found = c.in_ok-found.found.items in
    let s = c.loop-inner.invariant in
    let es = c.in_ok-ways.ensures.edges ∙ c.as_slice.ensures.value ∙ c.in_ok-back.ensures in
    let some : 0 < length found = some_told c.in_ok-found.found.len (length found) c.is_empty.result
    (sym c.in_ok-found.found.ok.0) c.is_empty.ensures c.if-is_empty.false in
    let room = turn_room C E c.in_ok-ways.ways.containers.items c.in_ok-ways.ways.edges.items
    c.in_ok-ways.ensures.containers es
    c.loop-inner.numbers.items c.loop-inner.inner.items c.deref_mut-in-loop-inner.result.now c.visit.new.inner
    c.loop-inner.front.items found c.args.goal c.loop-inner.level s.levels c.deref_mut-in-loop-inner.ensures.value
    c.in_ok-found.ensures.news c.in_ok-found.ensures.all c.in_ok-found.ensures.sound c.args.count s.room some in
    let f = c.ranges.count.fits in
    omega (arith, room, f)

pub loop-inner-init : goal.loop-inner-init
loop-inner-init c =
    let numbers_is : c.in_ok-numbers.numbers.items ≡ replicate c.args.count None = search rules in
    let outer_is : c.in_ok-outer.outer.items ≡ replicate c.args.count false = search rules in
    let inner_is : c.in_ok-inner.inner.items ≡ replicate c.args.count false = search rules in
    let front_is : c.push.new.self.items ≡ c.args.goal ∷ [] =
    c.in_ok-push.ensures.items ∙ ap (λ l. l ++ c.args.goal ∷ []) c.new-front.ensures.items in
    record {
      levels = subst (λ ns. Levels (Direct c.args.containers.now c.args.edges.now) ns c.in_ok-inner.inner.items
          c.push.new.self.items c.args.goal 0) (sym numbers_is)
          (subst₂ (λ a b. Levels (Direct c.args.containers.now c.args.edges.now) (replicate c.args.count None) a b
          c.args.goal 0) (sym inner_is) (sym front_is)
          (levels_start (Direct c.args.containers.now c.args.edges.now) c.args.count c.args.goal));
      visited = subst₂ (λ a b. AreVisited c.in_ok-ways.ways a b) (sym outer_is) (sym inner_is)
          (visited_start c.in_ok-ways.ways c.args.count);
      long = ap length numbers_is ∙ length-replicate c.args.count None;
      outer_long = ap length outer_is ∙ length-replicate c.args.count false;
      inner_long = ap length inner_is ∙ length-replicate c.args.count false;
      within = only_one c.push.new.self.items c.args.goal c.args.count front_is c.requires.goal;
      room = subst (λ m. 0 + count_by not m ≤ c.args.count) (sym inner_is)
          (let n = count_by-le-length not (replicate c.args.count false) in let e = length-replicate c.args.count
          false in
          omega (arith, n, e));
    }
