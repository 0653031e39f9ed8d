use Rattle.std.proofs.Common.{◌≡◌, List, length, refl, sym, ap, subst, ◌∙◌, arith}
use Rattle.rel_graph.specs.CatalogPairs.{containment}
use Rattle.rel_graph.specs.Pairs.{AllBelow}
use Rattle.res_book.specs.Rows.{AreApart}
use Rattle.res_core.specs.declared.held.Held.{Held}
use Rattle.catalog_finish.specs.Catalogs.{held, resources}
use Rattle.catalog_finish.specs.EdgeTables.{edges_of}
use Rattle.catalog_finish.specs.Layouts.{layout_of, inside}
use Rattle.catalog_finish.proofs.BelowLemmas.{resources_below, resources_few}
use Rattle.catalog_finish.proofs.KeptLemmas.{kept}
use Rattle.catalog_finish.proofs.finishing.finish.Goals as goal

pub overflow_cast-len : goal.overflow_cast-len
overflow_cast-len c =
    let few = resources_few (held c.args.lines c.in_ok-layout.layout) c.args.book 0 in
    omega (
      arith,
      c.len.ensures,
      ap length c.in_ok-resources.ensures.resources,
      few,
      c.book.invariant.few,
      ap length c.book.view_is,
    )

pub put_together-requires-clause-few : goal.put_together-requires-clause-few
put_together-requires-clause-few c =
    let few = resources_few (held c.args.lines c.in_ok-layout.layout) c.args.book 0 in
    omega (arith, ap length c.in_ok-resources.ensures.resources, few, c.book.invariant.few, ap length c.book.view_is)

pub put_together-requires-clause-below : goal.put_together-requires-clause-below
put_together-requires-clause-below c =
    let pairs = c.args.relations.containments in
    let layout : c.in_ok-layout.layout ≡ layout_of c.args.book pairs =
    c.in_ok-layout.ensures ∙ ap (layout_of c.args.book) c.containments.ensures.containments in
    let is : resources c.args.lines (layout_of c.args.book pairs) c.args.book ≡ c.in_ok-resources.resources =
    ap (λ l. resources c.args.lines l c.args.book) (sym layout) ∙ sym c.in_ok-resources.ensures.resources in
    let P : List Held → Type 0 = λ hs. AllBelow (containment hs) (length hs) in
    subst P is (resources_below (held c.args.lines (layout_of c.args.book pairs)) c.args.book pairs (λ n r. refl))

pub put_together-requires-clause-kept : goal.put_together-requires-clause-kept
put_together-requires-clause-kept c =
    let pairs = c.args.relations.containments in
    let layout : c.in_ok-layout.layout ≡ layout_of c.args.book pairs =
    c.in_ok-layout.ensures ∙ ap (layout_of c.args.book) c.containments.ensures.containments in
    kept (held c.args.lines c.in_ok-layout.layout) c.args.book pairs c.in_ok-pairs.pairs c.in_ok-resources.resources
    c.in_ok-edges.edges (λ n r. refl) (λ n r. ap (λ l. inside l n r) layout)
    (subst AreApart c.book.view_is c.book.invariant.apart) c.in_ok-resources.ensures.resources
    (c.in_ok-edges.ensures.edges ∙ ap (λ count. edges_of count c.in_ok-pairs.pairs) c.len.ensures)
    c.in_ok-resources.ensures.forms c.in_ok-edges.ensures.ordered
