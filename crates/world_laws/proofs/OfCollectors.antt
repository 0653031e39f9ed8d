-- Collectors, and the function `realize` of one reference.
use Rattle.std.proofs.Common.{ℕ, zero, suc, Bool, List, [], ◌∷◌, Option, None, Some}
use Rattle.std.specs.Prelude.{codes}
use Rattle.std.specs.Str.{bytes_eq}
use Rattle.pp_tree.specs.Layers.{TestLayer}
use Rattle.pp_tree.specs.Names.{normal}
use Rattle.pp_tree.specs.declared.collector.Collector as tree
use Rattle.pp_tree.specs.declared.collector.Comparison.{Comparison}
use Rattle.pp_tree.specs.declared.collector.Conjunction.{Conjunction, out-Conjunction}
use Rattle.pp_tree.specs.declared.collector.Query.{Query, out-Query}
use Rattle.pp_tree.specs.declared.collector.Test.{Test, out-Test}
use Rattle.pp_tree.specs.declared.collector.Test.TheOpen.{Test-F}
use Rattle.pp_tree.specs.declared.expr.Expr.{Expr}
use Rattle.pp_values.specs.Kinds.{kind_of}
use Rattle.pp_values.specs.declared.reference.Reference.{Reference}
use Rattle.res_book.specs.Relations.{Related, with_collector}
use Rattle.res_book.specs.declared.collector.Collector.{Collector}
use Rattle.res_core.specs.Criteria.{Criterion}
use Rattle.res_core.specs.Lines.{Line}
use Rattle.eval_world.specs.Inner.{Inner}
use Rattle.eval_world.specs.declared.here.Here.{Here}
use Rattle.eval_collectors.specs.Collectors.{register, asked, kind_by, kind_rule, of_kind, register_kind}
use Rattle.eval_collectors.specs.Collectors.{collector_rule, of_reference, register_reference, realize_rule}
use Rattle.eval_collectors.specs.Queries.{Asks, compare_rule, test_by, test_rule, tests_from, all_of, conjunction_rule}
use Rattle.eval_collectors.specs.Queries.{conjunctions_from, some_of, query_within, query_levels}
use Rattle.world_laws.specs.Extends.{RelationsGoOn}
use Rattle.world_laws.specs.Growing.{Grows, GrowsInner}
use Rattle.world_laws.proofs.Lists.{goes_on, stays}
use Rattle.world_laws.proofs.OfLines.{lines_grow}
use Rattle.world_laws.proofs.Steps.{and_then, pure_grows, fault_grows, either, told}
use Rattle.world_laws.proofs.Worlds.{relations_grow}

-- ---- what is registered

one_collector : (x : Collector) (r : Related) → RelationsGoOn r (with_collector x r)
one_collector x r = record {
  lines = stays r.lines;
  containments = stays r.containments;
  collectors = goes_on r.collectors (x ∷ []);
  applied = λ c n is. is;
}

register_grows : (x : Collector) → Grows (register x)
unfolding register
register_grows x = record { reaches = λ w. relations_grow w _ (one_collector x w.relations) }

register_kind_grows : (kind : List ℕ) (query : Criterion) (lines : List Line) (exported : Bool) (line : ℕ)
    (here : Here) →
    Grows (register_kind kind query lines exported line here)
unfolding register_kind
register_kind_grows kind query lines exported line here =
    told (λ w. register (of_kind kind query lines exported line here w)) (λ w. register_grows _)

kind_by_grows : (kind : Option (List ℕ)) (line : ℕ) (here : Here) → Grows (kind_by kind line here)
kind_by_grows None line here = fault_grows _
kind_by_grows (Some kind) line here = either (bytes_eq kind (codes "class")) (fault_grows _) pure_grows

kind_grows : (written : List ℕ) (line : ℕ) (here : Here) → Grows (kind_rule written line here)
unfolding kind_rule
kind_grows written line here = kind_by_grows (kind_of (normal written)) line here

-- ---- the function

register_reference_grows : (r : Reference) (line : ℕ) (here : Here) → Grows (register_reference r line here)
unfolding register_reference
register_reference_grows r line here =
    told (λ w. register (of_reference r line here w)) (λ w. register_grows _)

pub realize_grows : (r : Reference) (line : ℕ) (here : Here) → Grows (realize_rule r line here)
unfolding realize_rule
realize_grows r line here =
    either (bytes_eq r.kind (codes "class")) (fault_grows _) (register_reference_grows r line here)

module _ (inner : Inner) (g : GrowsInner inner) where
  -- ---- queries

  compare_grows : (c : Comparison Expr) (here : Here) → Grows (compare_rule inner c here)
  unfolding compare_rule
  compare_grows c here = and_then (g.value c.value here) (λ value. pure_grows)

  module _ (asks : Asks) (asks_grow : (q : Query) (here : Here) → Grows (asks q here)) where
    test_by_grows : (t : TestLayer) (here : Here) → Grows (test_by inner asks t here)
    test_by_grows (Test-F.Compare c) here = compare_grows c here
    test_by_grows (Test-F.Query q) here = asks_grow q here

    test_grows : (t : Test) (here : Here) → Grows (test_rule inner asks t here)
    unfolding test_rule
    test_grows t here = test_by_grows (out-Test t) here

    tests_grow : (done : List Criterion) (ts : List Test) (here : Here) → Grows (tests_from inner asks done ts here)
    unfolding tests_from
    tests_grow done [] here = pure_grows
    tests_grow done (t ∷ ts) here = and_then (test_grows t here) (λ c. tests_grow _ ts here)

    all_grow : (ts : List Test) (here : Here) → Grows (all_of inner asks ts here)
    all_grow [] here = and_then (tests_grow [] [] here) (λ cs. pure_grows)
    all_grow (t ∷ []) here = test_grows t here
    all_grow (t ∷ u ∷ ts) here = and_then (tests_grow [] (t ∷ u ∷ ts) here) (λ cs. pure_grows)

    conjunction_grows : (c : Conjunction) (here : Here) → Grows (conjunction_rule inner asks c here)
    conjunction_grows c here = all_grow (out-Conjunction c).tests here

    conjunctions_grow : (done : List Criterion) (cs : List Conjunction) (here : Here) →
        Grows (conjunctions_from inner asks done cs here)
    unfolding conjunctions_from
    conjunctions_grow done [] here = pure_grows
    conjunctions_grow done (c ∷ cs) here = and_then (conjunction_grows c here) (λ one. conjunctions_grow _ cs here)

    some_grow : (cs : List Conjunction) (here : Here) → Grows (some_of inner asks cs here)
    some_grow [] here = and_then (conjunctions_grow [] [] here) (λ several. pure_grows)
    some_grow (c ∷ []) here = conjunction_grows c here
    some_grow (c ∷ d ∷ cs) here = and_then (conjunctions_grow [] (c ∷ d ∷ cs) here) (λ several. pure_grows)

  query_grows : (n line : ℕ) (q : Query) (here : Here) → Grows (query_within n inner line q here)
  unfolding query_within
  query_grows zero line q here = fault_grows _
  query_grows (suc n) line q here =
      some_grow (query_within n inner line) (query_grows n line) (out-Query q).conjunctions here

  asked_grows : (q : Option Query) (line : ℕ) (here : Here) → Grows (asked inner q line here)
  asked_grows None line here = pure_grows
  asked_grows (Some q) line here = query_grows query_levels line q here

  -- ---- the statement

  pub collector_grows : (c : tree.Collector) (here : Here) → Grows (collector_rule inner c here)
  unfolding collector_rule
  collector_grows c here = and_then (asked_grows (tree.out-Collector c).query (tree.out-Collector c).at here) (λ query.
      and_then (lines_grow inner g [] (tree.out-Collector c).attributes here) (λ lines.
      and_then (kind_grows (tree.out-Collector c).kind (tree.out-Collector c).at here) (λ kind.
      register_kind_grows kind query lines (tree.out-Collector c).exported (tree.out-Collector c).at here)))
