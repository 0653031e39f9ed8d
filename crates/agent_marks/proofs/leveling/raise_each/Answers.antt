use Rattle.std.proofs.Common.{◌≡◌, ◌<◌, ◌+◌, length, inl, inr, sym, subst, arith}
use Rattle.std.proofs.lemmas.Bool.{cases_lt}
use Rattle.rel_graph.specs.Chains.{Paired}
use Rattle.agent_marks.specs.Levels.{Rises}
use Rattle.agent_marks.proofs.LevelLemmas.{rises_as, rises_then, paired_under}
use Rattle.agent_marks.proofs.leveling.raise_each.Goals as goal

pub loop-node-preserved : goal.loop-node-preserved
loop-node-preserved c =
    let arrows = c.args.arrows.now in
    let starts = c.args.starts.now.items in
    let n = c.loop-node.node in
    subst (λ b. Rises arrows starts (λ u v. (u < n + 1) × Paired arrows u v) b c.args.levels.now.items c.raise_from.new.levels.items)
    (sym c.either-rose.ensures)
    (rises_then arrows starts (λ u v. (u < n) × Paired arrows u v) (λ u v. (u ≡ n) × Paired arrows u v)
    (λ u v. (u < n + 1) × Paired arrows u v) c.loop-node.rose c.in_ok-more.more
    c.args.levels.now.items c.loop-node.levels.items c.raise_from.new.levels.items
    (λ u v p. elim (cases_lt u n) [
      | inl less ↦ inl (less, p.1)
      | inr more ↦ inr (let h = p.0 in omega (arith, h, more), p.1)
    ]) c.loop-node.invariant c.in_ok-more.ensures)

pub returns : goal.returns
returns c =
    let arrows = c.args.arrows.now in
    rises_as arrows c.args.starts.now.items (λ u v. (u < c.loop-node.node) × Paired arrows u v) (λ u v. Paired arrows u v)
    c.loop-node.rose c.args.levels.now.items c.loop-node.levels.items
    (λ u v p. (let h = paired_under arrows (length c.args.table.now.items) u v c.requires.below p in omega (arith, h), p))
    c.loop-node.invariant
