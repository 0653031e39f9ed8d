use Rattle.std.proofs.Common.{◌<◌, All, map, sym, subst, ap, ◌∙◌}
use Rattle.rel_graph.specs.Before.{Before}
use Rattle.rel_graph.specs.CatalogPairs.{containment, relations}
use Rattle.agent_transaction.proofs.ApplyLemmas.{contained_under, related_under}
use Rattle.agent_transaction.specs.declared.planned.Planned.{Planned}
use Rattle.agent_marks.specs.Levels.{AreLevels, level_of}
use Rattle.wide_apply.specs.Waves.{IsDivided}
use Rattle.wide_apply.proofs.SortLemmas.{sorted_by, ats_below}
use Rattle.wide_apply.proofs.applying.sorted.Goals as goal

pub new-requires-clause-below : goal.new-requires-clause-below
new-requires-clause-below c =
    contained_under c.args.resources.now c.args.edges.now c.requires.kept c.args.count c.requires.count
    c.as_slice-3.result.now (c.as_slice-3.ensures.value ∙ c.in_ok-pairs.ensures)

pub new-requires-clause-edges_below : goal.new-requires-clause-edges_below
new-requires-clause-edges_below c =
    related_under c.args.resources.now c.args.edges.now c.requires.kept c.args.count c.requires.count
    c.as_slice-4.result.now (c.as_slice-4.ensures.value ∙ c.in_ok-related.ensures ∙ ap relations c.as_slice.ensures)

pub new-requires-clause-counted : goal.new-requires-clause-counted
new-requires-clause-counted c =
    subst (λ l. All (λ x. x < c.args.count) l)
    (sym (c.as_slice-5.ensures.value ∙ c.in_ok-indexes.ensures
    ∙ ap (map (λ (p : Planned). p.at)) (c.as_slice-2.ensures.value ∙ c.into_vec-plan.ensures)))
    (ats_below c.args.count c.args.plan c.requires.below)

pub returns : goal.returns
returns c =
    let held = containment c.args.resources.now in
    let edges = relations c.args.edges.now in
    let levels = c.in_ok-levels.levels in
    let ats = c.as_slice-5.ensures.value ∙ c.in_ok-indexes.ensures
    ∙ ap (map (λ (p : Planned). p.at)) (c.as_slice-2.ensures.value ∙ c.into_vec-plan.ensures) in
    let are : AreLevels (Before held edges) c.args.count (map (λ (p : Planned). p.at) c.args.plan) levels =
    subst (λ l. AreLevels (Before held edges) c.args.count l levels) ats
    (subst (λ e. AreLevels (Before held e) c.args.count c.as_slice-5.result.now levels)
    (c.as_slice-4.ensures.value ∙ c.in_ok-related.ensures ∙ ap relations c.as_slice.ensures)
    (subst (λ p. AreLevels (Before p c.as_slice-4.result.now) c.args.count c.as_slice-5.result.now levels)
    (c.as_slice-3.ensures.value ∙ c.in_ok-pairs.ensures) c.in_ok-levels.ensures)) in
    sorted_by (Before held edges) c.args.count c.args.plan levels are c.in_ok-waves.waves.items
    (subst (λ p. IsDivided (level_of levels) p c.in_ok-waves.waves.items) c.into_vec-plan.ensures c.in_ok-waves.ensures)
