-- Collectors, and the function `realize` of one reference.
use Rattle.std.proofs.Common.{ℕ, zero, suc, Bool, List, [], ◌∷◌, Option, None, Some}
use Rattle.std.specs.Prelude.{codes}
use Rattle.std.specs.Str.{bytes_eq}
use Rattle.pp_tree.specs.Layers.{TestLayer}
use Rattle.pp_tree.specs.Names.{normal}
use Rattle.pp_tree.specs.declared.collector.Collector as tree
use Rattle.pp_tree.specs.declared.collector.Comparison.{Comparison}
use Rattle.pp_tree.specs.declared.collector.Conjunction.{Conjunction, out-Conjunction}
use Rattle.pp_tree.specs.declared.collector.Query.{Query, out-Query}
use Rattle.pp_tree.specs.declared.collector.Test.{Test, out-Test}
use Rattle.pp_tree.specs.declared.collector.Test.TheOpen.{Test-F}
use Rattle.pp_tree.specs.declared.expr.Expr.{Expr}
use Rattle.pp_values.specs.Kinds.{kind_of}
use Rattle.pp_values.specs.declared.reference.Reference.{Reference}
use Rattle.res_book.specs.Relations.{Related, with_collector}
use Rattle.res_book.specs.declared.collector.Collector.{Collector}
use Rattle.res_core.specs.Criteria.{all, Criterion}
use Rattle.res_core.specs.Lines.{Line}
use Rattle.std.proofs.Common.{◌++◌}
use Rattle.eval_world.specs.Inner.{Inner}
use Rattle.eval_world.specs.declared.here.Here.{Here}
use Rattle.eval_collectors.specs.Collectors.{register, asked, kind_by, kind_rule, of_kind, register_kind}
use Rattle.eval_collectors.specs.Collectors.{collector_rule, of_reference, register_reference, realize_rule}
use Rattle.eval_collectors.specs.Queries.{Asks, compare_rule, test_by, test_rule, tests_from, all_of, conjunction_rule}
use Rattle.eval_collectors.specs.Queries.{conjunctions_from, some_of, query_within, query_levels}
use Rattle.std.proofs.Common.{◌≡◌, false, refl, ap, sym, subst, ◌∙◌}
use Rattle.pp_values.specs.declared.place.Place.{Place}
use Rattle.eval_world.specs.Owners.{Owners}
use Rattle.eval_world.specs.Worlds.{place_at}
use Rattle.eval_world.specs.declared.world.World.{World}
use Rattle.independence_laws.specs.Alike.{AreSameCollectors, IsSameCollector, IsSameOwner}
use Rattle.independence_laws.specs.Steps.{Comes, Equal, Same, SameInner, Two}
use Rattle.independence_laws.proofs.Going.{and_then, either, place_same, pure_same}
use Rattle.independence_laws.proofs.OfClasses.{with_same_relations}
use Rattle.independence_laws.proofs.OfLines.{lines_same}
use Rattle.independence_laws.proofs.OfWorld.{fault_here, gives}
use Rattle.independence_laws.proofs.Owning.{same_owner_on}

-- ---- what is registered

one_more_collector : (o p : Owners) (cs ds : List Collector) (c d : Collector) → AreSameCollectors o p cs ds
    → IsSameCollector o p c d → AreSameCollectors o p (cs ++ c ∷ []) (ds ++ d ∷ [])
unfolding AreSameCollectors
one_more_collector o p [] [] c d same one = (one, tt)
one_more_collector o p [] (y ∷ ds) c d same one = absurd same
one_more_collector o p (x ∷ cs) [] c d same one = absurd same
one_more_collector o p (x ∷ cs) (y ∷ ds) c d same one = (same.0, one_more_collector o p cs ds c d same.1 one)

module _ (two : Two) where
  -- the same collector is registered, whose owner is that of the code
  registered : (make : Place → ℕ → Collector) (line : ℕ)
      → ((at : Place) (n k : ℕ) → make at k ≡ record (make at n) { owner = k })
      → ((at : Place) (n : ℕ) → (make at n).owner ≡ n)
      → Same two (λ here w. register (make (place_at w here line) here.owner) w)
  unfolding register
  registered make line parts own = record {
    comes = λ first second v w alike f g.
        let n = two.left.owner in
        let k = two.right.owner in
        let c = make (place_at v two.left line) n in
        let d = make (place_at w two.right line) k in
        let same = same_owner_on two.first two.second v.owners w.owners n k f g two.same.owner in
        let there : make (place_at v two.left line) k ≡ d
        = ap (λ at. make at k) (place_same two first second v w alike f g line) in
        gives tt first second v w (record v { relations = with_collector c v.relations })
        (record w { relations = with_collector d w.relations }) refl refl
        (with_same_relations alike (with_collector c v.relations) (with_collector d w.relations) (record {
          lines = alike.relations.lines;
          containments = alike.relations.containments;
          applied = alike.relations.applied;
          collectors = one_more_collector v.owners w.owners v.relations.collectors w.relations.collectors c d
              alike.relations.collectors (record {
                parts = sym there ∙ parts (place_at v two.left line) n k
                    ∙ ap (λ j. record c { owner = j }) (sym (own (place_at w two.right line) k));
                owner = subst (λ j. IsSameOwner v.owners w.owners j d.owner)
                    (sym (own (place_at v two.left line) n))
                    (subst (λ j. IsSameOwner v.owners w.owners n j) (sym (own (place_at w two.right line) k)) same);
              });
        }));
  }

  register_kind_same : (kind : List ℕ) (query : Criterion) (lines : List Line) (exported : Bool) (line : ℕ)
      → Same two (λ here. register_kind kind query lines exported line here)
  unfolding register_kind
  register_kind_same kind query lines exported line = registered
      (λ at n. record { kind = kind; query = query; at = at; owner = n; exported = exported; lines = lines; realized = None })
      line (λ at n k. refl) (λ at n. refl)

  kind_by_same : (kind : Option (List ℕ)) (line : ℕ) → Same two (λ here. kind_by kind line here)
  kind_by_same None line = fault_here two line _
  kind_by_same (Some kind) line = either two (bytes_eq kind (codes "class")) (fault_here two line _) (pure_same two)

  kind_same : (written : List ℕ) (line : ℕ) → Same two (λ here. kind_rule written line here)
  unfolding kind_rule
  kind_same written line = kind_by_same (kind_of (normal written)) line

  -- ---- the function

  register_reference_same : (r : Reference) (line : ℕ) → Same two (λ here. register_reference r line here)
  unfolding register_reference
  register_reference_same r line = registered
      (λ at n. record { kind = r.kind; query = all; at = at; owner = n; exported = false; lines = []; realized = Some r })
      line (λ at n k. refl) (λ at n. refl)

  pub realize_same : (r : Reference) (line : ℕ) → Same two (λ here. realize_rule r line here)
  unfolding realize_rule
  realize_same r line =
      either two (bytes_eq r.kind (codes "class")) (fault_here two line _) (register_reference_same r line)

module _ (inner : Inner) (same : SameInner inner) (two : Two) where
  -- ---- queries

  compare_same : (c : Comparison Expr) → Same two (λ here. compare_rule inner c here)
  unfolding compare_rule
  compare_same c = and_then two (same.value c.value two) (λ value. pure_same two)

  module _ (asks : Asks) (asks_same : (q : Query) → Same two (λ here. asks q here)) where
    test_by_same : (t : TestLayer) → Same two (λ here. test_by inner asks t here)
    test_by_same (Test-F.Compare c) = compare_same c
    test_by_same (Test-F.Query q) = asks_same q

    test_same : (t : Test) → Same two (λ here. test_rule inner asks t here)
    unfolding test_rule
    test_same t = test_by_same (out-Test t)

    tests_same : (done : List Criterion) (ts : List Test) → Same two (λ here. tests_from inner asks done ts here)
    unfolding tests_from
    tests_same done [] = pure_same two
    tests_same done (t ∷ ts) = and_then two (test_same t) (λ c. tests_same _ ts)

    all_same : (ts : List Test) → Same two (λ here. all_of inner asks ts here)
    all_same [] = and_then two (tests_same [] []) (λ cs. pure_same two)
    all_same (t ∷ []) = test_same t
    all_same (t ∷ u ∷ ts) = and_then two (tests_same [] (t ∷ u ∷ ts)) (λ cs. pure_same two)

    conjunction_same : (c : Conjunction) → Same two (λ here. conjunction_rule inner asks c here)
    conjunction_same c = all_same (out-Conjunction c).tests

    conjunctions_same : (done : List Criterion) (cs : List Conjunction) →
        Same two (λ here. conjunctions_from inner asks done cs here)
    unfolding conjunctions_from
    conjunctions_same done [] = pure_same two
    conjunctions_same done (c ∷ cs) = and_then two (conjunction_same c) (λ one. conjunctions_same _ cs)

    some_same : (cs : List Conjunction) → Same two (λ here. some_of inner asks cs here)
    some_same [] = and_then two (conjunctions_same [] []) (λ several. pure_same two)
    some_same (c ∷ []) = conjunction_same c
    some_same (c ∷ d ∷ cs) = and_then two (conjunctions_same [] (c ∷ d ∷ cs)) (λ several. pure_same two)

  query_same : (n line : ℕ) (q : Query) → Same two (λ here. query_within n inner line q here)
  unfolding query_within
  query_same zero line q = fault_here two line _
  query_same (suc n) line q =
      some_same (query_within n inner line) (query_same n line) (out-Query q).conjunctions

  asked_same : (q : Option Query) (line : ℕ) → Same two (λ here. asked inner q line here)
  asked_same None line = pure_same two
  asked_same (Some q) line = query_same query_levels line q

  -- ---- the statement

  pub collector_same : (c : tree.Collector) → Same two (λ here. collector_rule inner c here)
  unfolding collector_rule
  collector_same c = and_then two (asked_same (tree.out-Collector c).query (tree.out-Collector c).at) (λ query.
      and_then two (lines_same inner same two [] (tree.out-Collector c).attributes) (λ lines.
      and_then two (kind_same two (tree.out-Collector c).kind (tree.out-Collector c).at) (λ kind.
      register_kind_same two kind query lines (tree.out-Collector c).exported (tree.out-Collector c).at)))
