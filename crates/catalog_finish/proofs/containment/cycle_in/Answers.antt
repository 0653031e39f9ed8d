use Rattle.std.proofs.Common.{◌≡◌, IfOk, Some, map, sym, ap, subst, ◌∙◌}
use Rattle.rel_graph.specs.Graphs.{containment_pair, edge_pair}
use Rattle.rel_graph.specs.Pairs.{AllBelow}
use Rattle.rel_graph.specs.FirstCycles.{cycle_in}
use Rattle.rel_graph.proofs.CycleLemmas.{built_cycle, contained_cycle}
use Rattle.catalog_finish.proofs.containment.cycle_in.Goals as goal

pub cycle_before-requires-clause-below : goal.cycle_before-requires-clause-below
cycle_before-requires-clause-below c =
    subst (λ g. AllBelow g.containers g.count) (sym c.in-Ok.ensures.0) c.requires.below

pub cycle_before-requires-clause-edges_below : goal.cycle_before-requires-clause-edges_below
cycle_before-requires-clause-edges_below c =
    subst (λ g. AllBelow g.edges g.count) (sym c.in-Ok.ensures.0) c.requires.edges_below

pub returns-in-Ok : goal.returns-in-Ok
returns-in-Ok c =
    subst (λ meant. IfOk c.cycle_before.result (λ o. o ≡ meant))
    (built_cycle _ _ _ c.in-Ok.graph c.requires.below c.in-Ok.ensures) c.cycle_before.ensures

pub returns-in-Err-Contains : goal.returns-in-Err-Contains
returns-in-Err-Contains c =
    let told : cycle_in (map containment_pair c.args.containers.now) (map edge_pair c.args.edges.now) c.args.count
    ≡ Some c.in-Err-Contains.cycle =
    contained_cycle _ _ _ _ c.requires.below (rw c.in-Err-Contains.field-0-is at c.in-Err-Contains.ensures) in
    ap Some c.in-Err-Contains.cycle-is ∙ sym told
