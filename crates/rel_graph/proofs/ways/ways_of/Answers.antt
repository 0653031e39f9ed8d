use Rattle.std.proofs.Common.{◌∙◌, sym, subst}
use Rattle.rel_graph.specs.Pairs.{AllBelow}
use Rattle.rel_graph.proofs.Flips.{below_flip}
use Rattle.rel_graph.proofs.ways.ways_of.Goals as goal

pub table-requires : goal.table-requires
table-requires c = subst (λ ps. AllBelow ps c.args.count) (sym (c.as_slice.ensures.value ∙ c.in_ok-outward.ensures))
    (below_flip c.args.containers.now c.args.count c.requires.below)
