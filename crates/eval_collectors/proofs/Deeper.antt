-- With one level more a query comes to what it came to, but where that was F29.
use Rattle.std.proofs.Common.{◌≡◌, ◌⊎◌, ℕ, zero, suc, List, [], ◌∷◌, ◌++◌, Ok, Err, inl, inr, refl, ap, ◌∙◌}
use Rattle.pp_tree.specs.Layers.{TestLayer}
use Rattle.pp_tree.specs.declared.collector.Conjunction.{Conjunction, out-Conjunction}
use Rattle.pp_tree.specs.declared.collector.Query.{Query, out-Query}
use Rattle.pp_tree.specs.declared.collector.Test.{Test, out-Test}
use Rattle.pp_tree.specs.declared.collector.Test.TheOpen.{Test-F}
use Rattle.pp_values.specs.Faults as faults
use Rattle.pp_values.specs.declared.fault.What.TheVariants as what
use Rattle.res_core.specs.Criteria.{Criterion, conjunction, criteria_of, disjunction}
use Rattle.eval_world.specs.Inner.{Inner}
use Rattle.eval_world.specs.Outcomes.{Outcome, Step, ◌>>=◌, go_on, pure}
use Rattle.eval_world.specs.Worlds.{place_at}
use Rattle.eval_world.specs.declared.here.Here.{Here}
use Rattle.eval_world.specs.declared.world.World.{World}
use Rattle.eval_collectors.specs.Laws.{GoesDeeper, IsDepthLimit, LevelsOnlyRefuse}
use Rattle.eval_collectors.specs.Queries.{Asks, test_by, test_rule, tests_from, all_of, conjunction_rule}
use Rattle.eval_collectors.specs.Queries.{conjunctions_from, some_of, query_within}

-- ---- steps

itself : {A : Type 0} (a : Step A) → GoesDeeper a a
itself a w = inl refl

module _ {A B : Type 0} (f g : A → Step B) (further : (x : A) → GoesDeeper (f x) (g x)) where
  go : (r s : Outcome A) → (r ≡ s) ⊎ IsDepthLimit r → (go_on r f ≡ go_on s g) ⊎ IsDepthLimit (go_on r f)
  go (Ok p) s (inl e) = elim (further p.0 p.1) [
    | inl d ↦ inl (d ∙ ap (λ r. go_on r g) e)
    | inr d ↦ inr d
  ]
  go (Err x) s (inl e) = inl (ap (λ r. go_on r g) e)
  go r s (inr d) = inr (d.0, ap (λ o. go_on o f) d.1, d.2)

  and_then : (a b : Step A) → GoesDeeper a b → GoesDeeper (a >>= f) (b >>= g)
  and_then a b deeper w = go (a w) (b w) (deeper w)

-- ---- what stands between the levels

module _ (inner : Inner) (a b : Asks) (deeper : (q : Query) (here : Here) → GoesDeeper (a q here) (b q here)) where
  test_by_deeper : (t : TestLayer) (here : Here) → GoesDeeper (test_by inner a t here) (test_by inner b t here)
  test_by_deeper (Test-F.Compare c) here = itself (test_by inner a (Test-F.Compare c) here)
  test_by_deeper (Test-F.Query q) here = deeper q here

  test_deeper : (t : Test) (here : Here) → GoesDeeper (test_rule inner a t here) (test_rule inner b t here)
  unfolding test_rule
  test_deeper t here = test_by_deeper (out-Test t) here

  tests_deeper : (done : List Criterion) (ts : List Test) (here : Here)
      → GoesDeeper (tests_from inner a done ts here) (tests_from inner b done ts here)
  unfolding tests_from
  tests_deeper done [] here = itself (pure done)
  tests_deeper done (t ∷ ts) here =
      and_then (λ c. tests_from inner a (done ++ c ∷ []) ts here) (λ c. tests_from inner b (done ++ c ∷ []) ts here)
      (λ c. tests_deeper (done ++ c ∷ []) ts here) (test_rule inner a t here) (test_rule inner b t here)
      (test_deeper t here)

  together : (ts : List Test) (here : Here) → GoesDeeper
      (tests_from inner a [] ts here >>= (λ cs. pure (conjunction (criteria_of cs))))
      (tests_from inner b [] ts here >>= (λ cs. pure (conjunction (criteria_of cs))))
  together ts here =
      and_then (λ cs. pure (conjunction (criteria_of cs))) (λ cs. pure (conjunction (criteria_of cs)))
      (λ cs. itself (pure (conjunction (criteria_of cs)))) (tests_from inner a [] ts here)
      (tests_from inner b [] ts here) (tests_deeper [] ts here)

  all_deeper : (ts : List Test) (here : Here) → GoesDeeper (all_of inner a ts here) (all_of inner b ts here)
  all_deeper [] here = together [] here
  all_deeper (t ∷ []) here = test_deeper t here
  all_deeper (t ∷ u ∷ ts) here = together (t ∷ u ∷ ts) here

  conjunctions_deeper : (done : List Criterion) (cs : List Conjunction) (here : Here)
      → GoesDeeper (conjunctions_from inner a done cs here) (conjunctions_from inner b done cs here)
  unfolding conjunctions_from
  conjunctions_deeper done [] here = itself (pure done)
  conjunctions_deeper done (c ∷ cs) here =
      and_then (λ one. conjunctions_from inner a (done ++ one ∷ []) cs here)
      (λ one. conjunctions_from inner b (done ++ one ∷ []) cs here)
      (λ one. conjunctions_deeper (done ++ one ∷ []) cs here) (conjunction_rule inner a c here)
      (conjunction_rule inner b c here) (all_deeper (out-Conjunction c).tests here)

  either : (cs : List Conjunction) (here : Here) → GoesDeeper
      (conjunctions_from inner a [] cs here >>= (λ several. pure (disjunction (criteria_of several))))
      (conjunctions_from inner b [] cs here >>= (λ several. pure (disjunction (criteria_of several))))
  either cs here =
      and_then (λ several. pure (disjunction (criteria_of several)))
      (λ several. pure (disjunction (criteria_of several)))
      (λ several. itself (pure (disjunction (criteria_of several)))) (conjunctions_from inner a [] cs here)
      (conjunctions_from inner b [] cs here) (conjunctions_deeper [] cs here)

  some_deeper : (cs : List Conjunction) (here : Here) → GoesDeeper (some_of inner a cs here) (some_of inner b cs here)
  some_deeper [] here = either [] here
  some_deeper (c ∷ []) here = all_deeper (out-Conjunction c).tests here
  some_deeper (c ∷ d ∷ cs) here = either (c ∷ d ∷ cs) here

-- ---- levels

pub levels_only_refuse : LevelsOnlyRefuse
unfolding query_within
levels_only_refuse zero inner line q here =
    λ w. inr (faults.fault (place_at w here line) what.DepthLimit, refl, refl)
levels_only_refuse (suc n) inner line q here =
    some_deeper inner (query_within n inner line) (query_within (suc n) inner line)
    (λ r there. levels_only_refuse n inner line r there) (out-Query q).conjunctions here
