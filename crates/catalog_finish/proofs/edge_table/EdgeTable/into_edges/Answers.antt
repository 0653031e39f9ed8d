use Rattle.std.proofs.Common.{◌≡◌, map, sym, subst, rules, arith, IsTrue}
use Rattle.std.proofs.lemmas.Grind.{common_steps}
use Rattle.std.specs.Map.{keys_of}
use Rattle.std.specs.List.Sorted.{IsStrictlySortedBy}
use Rattle.rel_graph.specs.Graphs.{edge_pair}
use Rattle.rel_graph.specs.Pairs.{AllBelow}
use Rattle.res_core.specs.Catalogs.{edge_cmp, is_ordered}
use Rattle.catalog_finish.specs.EdgeTables.{edges_of, pair_cmp}
use Rattle.catalog_finish.proofs.KeptLemmas.{edges_rise}
use Rattle.catalog_finish.proofs.RelatingLemmas.{edges_below}
use Rattle.catalog_finish.proofs.edge_table.EdgeTable.into_edges.Goals as goal

pub returns-clause-below : goal.returns-clause-below
returns-clause-below c =
    let all : c.from_vec.result ≡ edges_of c.args.count c.args.self =
    first_of (search rules, grind (arith, common_steps)) in
    subst (λ es. AllBelow (map edge_pair es) c.args.count) (sym all) (edges_below c.args.count c.args.self)

pub returns-clause-ordered : goal.returns-clause-ordered
returns-clause-ordered c =
    let all : c.from_vec.result ≡ edges_of c.args.count c.args.self =
    first_of (search rules, grind (arith, common_steps)) in
    let rising : IsStrictlySortedBy pair_cmp (keys_of c.args.self) =
    subst (λ es. IsStrictlySortedBy pair_cmp (keys_of es)) c.self.view_is
    c.into_iter-from-iterator.ensures.into_iter_gives.5 in
    subst (λ es. IsTrue (is_ordered edge_cmp es)) (sym all) (edges_rise c.args.count c.args.self rising)
