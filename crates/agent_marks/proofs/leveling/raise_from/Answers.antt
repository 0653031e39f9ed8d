use Rattle.std.proofs.Common.{◌≡◌, ◌<◌, ℕ, Contains, length, All, sym, subst, ap, ◌∙◌}
use Rattle.std.specs.declared.vec.Vec.{Vec}
use Rattle.std.specs.declared.alloc.Global.{Global}
use Rattle.rel_graph.specs.Chains.{Paired}
use Rattle.agent_marks.proofs.LevelLemmas.{rises_as, all_paired}
use Rattle.agent_marks.proofs.SpreadLemmas.{targets_have}
use Rattle.agent_marks.proofs.TargetLemmas.{targets_below}
use Rattle.agent_marks.proofs.leveling.raise_from.Goals as goal

pub raise_all-requires-clause-paired : goal.raise_all-requires-clause-paired
raise_all-requires-clause-paired c =
    subst (λ l. All (λ t. Paired c.args.arrows.now c.args.from t) l)
    (sym (c.as_slice.ensures.value ∙ ap (λ (v : Vec ℕ Global). v.items) c.index.ensures ∙ c.requires.table c.args.from c.index.result.now c.requires.from))
    (all_paired c.args.arrows.now c.args.from)

pub raise_all-requires-clause-within : goal.raise_all-requires-clause-within
raise_all-requires-clause-within c =
    subst (λ n. All (λ t. t < n) c.as_slice.result.now) (sym c.requires.long)
    (subst (λ l. All (λ t. t < length c.args.table.now.items) l)
    (sym (c.as_slice.ensures.value ∙ ap (λ (v : Vec ℕ Global). v.items) c.index.ensures ∙ c.requires.table c.args.from c.index.result.now c.requires.from))
    (targets_below c.args.arrows.now c.args.from (length c.args.table.now.items) c.requires.below))

pub returns : goal.returns
returns c =
    let arrows = c.args.arrows.now in
    let from = c.args.from in
    let is = c.as_slice.ensures.value ∙ ap (λ (v : Vec ℕ Global). v.items) c.index.ensures ∙ c.requires.table from c.index.result.now c.requires.from in
    rises_as arrows c.args.starts.now.items (λ u v. (u ≡ from) × Contains c.as_slice.result.now v) (λ u v. (u ≡ from) × Paired arrows u v)
    c.in_ok-rose.rose c.args.levels.now.items c.raise_all.new.levels.items
    (λ u v p. (p.0, subst (λ l. Contains l v) (sym is) (targets_have from v arrows (subst (λ x. Paired arrows x v) p.0 p.1))))
    c.in_ok-rose.ensures
