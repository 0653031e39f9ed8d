use Rattle.std.proofs.Common.{◌≡◌, ◌+◌, ℕ, sym, subst, arith}
use Rattle.rel_graph.specs.Pairs.{AllBelow}
use Rattle.agent_marks.specs.Levels.{Settled, Earned, level_at}
use Rattle.agent_marks.proofs.ArrowLemmas.{arrows_below}
use Rattle.agent_marks.proofs.LevelLemmas.{levels_are, earned_at_first, none_yet, counted_below}
use Rattle.agent_marks.proofs.levels.Levels.new.Goals as goal

pub targets_of-requires : goal.targets_of-requires
targets_of-requires c =
    subst (λ l. AllBelow l (c.args.count + c.args.count)) (sym c.as_slice.ensures.value)
    (arrows_below c.args.count c.args.count c.args.containers.now c.args.edges.now c.put_through.new.arrows.items
    (c.in_ok-put_through.ensures c.args.containers.now c.args.edges.now c.in_ok-arrows.ensures) (omega arith)
    c.requires.below c.requires.edges_below)

pub rise_by-requires-clause-below : goal.rise_by-requires-clause-below
rise_by-requires-clause-below c =
    subst (λ n. AllBelow c.as_slice-2.result.now n) (sym c.in_ok-table.ensures.long)
    (subst (λ l. AllBelow l (c.args.count + c.args.count)) (sym c.as_slice-2.ensures.value)
    (arrows_below c.args.count c.args.count c.args.containers.now c.args.edges.now c.put_through.new.arrows.items
    (c.in_ok-put_through.ensures c.args.containers.now c.args.edges.now c.in_ok-arrows.ensures) (omega arith)
    c.requires.below c.requires.edges_below))

pub settle-requires-clause-below : goal.settle-requires-clause-below
settle-requires-clause-below c =
    subst (λ n. AllBelow c.as_slice-4.result.now n) (sym c.in_ok-table.ensures.long)
    (subst (λ l. AllBelow l (c.args.count + c.args.count)) (sym c.as_slice-4.ensures.value)
    (arrows_below c.args.count c.args.count c.args.containers.now c.args.edges.now c.put_through.new.arrows.items
    (c.in_ok-put_through.ensures c.args.containers.now c.args.edges.now c.in_ok-arrows.ensures) (omega arith)
    c.requires.below c.requires.edges_below))

pub returns : goal.returns
returns c =
    let arrows = c.put_through.new.arrows.items in
    let starts = c.in_ok-starts.starts.items in
    let first : Earned arrows starts c.in_ok-levels.levels.items =
    earned_at_first arrows starts c.in_ok-levels.levels.items
    (subst (λ l. (v : ℕ) → level_at l v ≡ 0) (sym (c.in_ok-levels.ensures.items_if_clones_equal (λ y e. e))) (none_yet (c.args.count + c.args.count))) in
    let rises = subst (λ l. Earned l starts c.in_ok-levels.levels.items → Earned l starts c.rise_by.new.levels.items) c.as_slice-2.ensures.value
    c.in_ok-rise_by.ensures.earned in
    let settles = subst (λ l. Earned l starts c.rise_by.new.levels.items → Earned l starts c.settle.new.levels.items) c.as_slice-4.ensures.value
    c.in_ok-settle.ensures.earned in
    levels_are c.args.count c.args.containers.now c.args.edges.now arrows
    (c.in_ok-put_through.ensures c.args.containers.now c.args.edges.now c.in_ok-arrows.ensures)
    c.requires.below c.requires.edges_below starts c.settle.new.levels.items c.args.counted.now c.in_ok-starts.ensures
    (counted_below c.args.count c.args.counted.now c.requires.counted)
    (subst (λ l. Settled l starts c.settle.new.levels.items) c.as_slice-4.ensures.value c.in_ok-settle.ensures.settled)
    (settles (rises first))
