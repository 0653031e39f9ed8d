use Rattle.std.proofs.Common.{◌≡◌, ◌+◌, Contains, take, get_or, inl, inr, sym, subst, arith}
use Rattle.std.proofs.lemmas.List.{take_more, take_all}
use Rattle.std.proofs.lemmas.List.Elements.{Contains-push_cases}
use Rattle.agent_marks.specs.Levels.{Rises}
use Rattle.agent_marks.proofs.LevelLemmas.{rises_then}
use Rattle.agent_marks.proofs.leveling.raise_all.Goals as goal

pub loop-to-preserved : goal.loop-to-preserved
loop-to-preserved c =
    let arrows = c.args.arrows.now in
    let starts = c.args.starts.now.items in
    let targets = c.args.targets.now in
    let i = c.loop-to.to-index in
    subst (λ b. Rises arrows starts (λ u v. (u ≡ c.args.from) × Contains (take (i + 1) targets) v) b c.args.levels.now.items c.raise.new.levels.items)
    (sym c.either-rose.ensures)
    (rises_then arrows starts (λ u v. (u ≡ c.args.from) × Contains (take i targets) v) (λ u v. (u ≡ c.args.from) × (v ≡ get_or targets i 0))
    (λ u v. (u ≡ c.args.from) × Contains (take (i + 1) targets) v) c.loop-to.rose c.in_ok-more.more
    c.args.levels.now.items c.loop-to.levels.items c.raise.new.levels.items
    (λ u v p. elim (Contains-push_cases (take i targets) (get_or targets i 0) v
    (subst (λ l. Contains l v) (take_more targets i 0 c.loop-to-test.true) p.1)) [
      | inl old ↦ inl (p.0, old)
      | inr e ↦ inr (p.0, sym e)
    ]) c.loop-to.invariant c.in_ok-more.ensures)

pub returns : goal.returns
returns c =
    let targets = c.args.targets.now in
    subst (λ l. Rises c.args.arrows.now c.args.starts.now.items (λ u v. (u ≡ c.args.from) × Contains l v) c.loop-to.rose c.args.levels.now.items c.loop-to.levels.items)
    (take_all c.loop-to.to-index targets (omega arith)) c.loop-to.invariant
