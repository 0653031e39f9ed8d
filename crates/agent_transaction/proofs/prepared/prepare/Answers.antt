use Rattle.std.proofs.Common.{refl, ap, ◌∙◌}
use Rattle.rel_graph.specs.CatalogPairs.{containment, relations}
use Rattle.agent_transaction.proofs.ApplyLemmas.{contained_under, related_under, signals_under}
use Rattle.agent_transaction.specs.Runs.{signalling}
use Rattle.agent_transaction.proofs.prepared.prepare.Goals as goal

pub order_of-requires-clause-below : goal.order_of-requires-clause-below
order_of-requires-clause-below c =
    contained_under c.args.resources.now c.args.edges.now c.requires.kept c.args.count c.requires.count
    (containment c.args.resources.now) refl

pub order_of-requires-clause-edges_below : goal.order_of-requires-clause-edges_below
order_of-requires-clause-edges_below c =
    related_under c.args.resources.now c.args.edges.now c.requires.kept c.args.count c.requires.count
    (relations c.args.edges.now) refl

pub after-requires-clause-below : goal.after-requires-clause-below
after-requires-clause-below c =
    contained_under c.args.resources.now c.args.edges.now c.requires.kept c.args.count c.requires.count
    c.as_slice-4.result.now (c.as_slice-4.ensures.value ∙ c.in_ok-pairs.ensures)

pub after-requires-clause-edges_below : goal.after-requires-clause-edges_below
after-requires-clause-edges_below c =
    related_under c.args.resources.now c.args.edges.now c.requires.kept c.args.count c.requires.count
    c.as_slice-5.result.now (c.as_slice-5.ensures.value ∙ c.in_ok-related.ensures ∙ ap relations c.as_slice-3.ensures)

pub directly_after-requires-clause-below : goal.directly_after-requires-clause-below
directly_after-requires-clause-below c =
    contained_under c.args.resources.now c.args.edges.now c.requires.kept c.args.count c.requires.count
    c.as_slice-7.result.now (c.as_slice-7.ensures.value ∙ c.in_ok-pairs.ensures)

pub directly_after-requires-clause-edges_below : goal.directly_after-requires-clause-edges_below
directly_after-requires-clause-edges_below c =
    signals_under c.args.resources.now c.args.edges.now c.requires.kept c.args.count c.requires.count
    c.as_slice-8.result.now (c.as_slice-8.ensures.value ∙ c.in_ok-signals.ensures ∙ ap signalling c.as_slice-6.ensures)
