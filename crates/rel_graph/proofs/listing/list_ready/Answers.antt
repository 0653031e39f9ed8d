use Rattle.std.proofs.Common.{◌≡◌, ◌∙◌, length, ap, sym, subst₂}
use Rattle.rel_graph.specs.Pairs.{AllBelow}
use Rattle.rel_graph.specs.Steps.{begin_of}
use Rattle.rel_graph.proofs.ArrowLemmas.{arrows_below}
use Rattle.rel_graph.proofs.listing.list_ready.Goals as goal

pub targets_of-requires : goal.targets_of-requires
targets_of-requires c = subst₂ (λ a n. AllBelow a n) (sym c.as_slice.ensures.value) (sym c.begin.ensures)
    (arrows_below c.args.containers.now c.args.edges.now c.in_ok-arrows.arrows.items c.args.count c.requires.below
    c.requires.edges_below c.in_ok-arrows.ensures)

pub list_steps-requires-clause-arrows_below : goal.list_steps-requires-clause-arrows_below
list_steps-requires-clause-arrows_below c =
    let long : length c.as_slice-3.result.now ≡ begin_of c.args.count =
    ap length c.as_slice-3.ensures.value ∙ c.in_ok-out.ensures.long ∙ c.begin.ensures in
    subst₂ (λ a n. AllBelow a n) (sym c.as_slice-2.ensures.value) (sym long)
    (arrows_below c.args.containers.now c.args.edges.now c.in_ok-arrows.arrows.items c.args.count c.requires.below
    c.requires.edges_below c.in_ok-arrows.ensures)
