use Rattle.std.proofs.Common.{◌≡◌, ◌∙◌, ℕ, List, map, ap, ap₂, sym, subst}
use Rattle.rel_graph.specs.Chains.{Paired}
use Rattle.rel_graph.specs.Cycles.{HasNoCycle}
use Rattle.rel_graph.specs.Graphs.{Relations, IsCyclic, containment_pair, edge_pair}
use Rattle.rel_graph.specs.Pairs.{AllBelow}
use Rattle.rel_graph.proofs.graph.build.Goals as goal

containers_are : (c : goal.In_ok-cyclic) → c.in_ok-containers.containers.items ≡ map containment_pair
    c.args.containers.now
containers_are c = c.in_ok-containers.ensures ∙ ap (map containment_pair) c.as_slice.ensures

edges_are : (c : goal.In_ok-cyclic) → c.in_ok-edges.edges.items ≡ map edge_pair c.args.edges.now
edges_are c = c.in_ok-edges.ensures ∙ ap (map edge_pair) c.as_slice-2.ensures

cyclic_is : (c : goal.In_ok-cyclic) →
    IsCyclic c.in_ok-containers.containers.items c.in_ok-edges.edges.items c.in_ok-cyclic.cyclic
cyclic_is c =
    subst (λ es. IsCyclic c.in_ok-containers.containers.items es c.in_ok-cyclic.cyclic) c.as_slice-4.ensures.value
    (subst (λ cs. IsCyclic cs c.as_slice-4.result.now c.in_ok-cyclic.cyclic) c.as_slice-3.ensures.value
    c.in_ok-cyclic.ensures)

pub invariant_of-result : goal.invariant_of-result
invariant_of-result c = record {
  below = subst (λ ps. AllBelow ps c.args.count) (sym (containers_are c)) c.requires.below;
  edges_below = subst (λ ps. AllBelow ps c.args.count) (sym (edges_are c)) c.requires.edges_below;
  told = cyclic_is c;
}

pub returns : goal.returns
returns c =
    let made : List (ℕ × ℕ) → List (ℕ × ℕ) → Relations =
    λ cs es. record { count = c.args.count; containers = cs; edges = es } in
    let is = cyclic_is c in
    (ap₂ made (containers_are c) (edges_are c), subst (λ ps. HasNoCycle (Paired ps)) (containers_are c) is.contains)
