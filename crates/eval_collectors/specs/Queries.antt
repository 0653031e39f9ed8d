-- What the query of a collector asks for: `tag == 'a' and (title != 'x' or mode == '0644')`.
use Rattle.std.specs.Prelude.{ℕ, zero, suc, Bool, true, false, if◌then◌else◌, List, [], ◌∷◌, ◌++◌, codes}
use Rattle.std.specs.Str.{bytes_eq}
use Rattle.pp_tree.specs.Layers.{TestLayer}
use Rattle.pp_tree.specs.declared.collector.Comparison.{Comparison}
use Rattle.pp_tree.specs.declared.collector.Conjunction.{Conjunction, out-Conjunction}
use Rattle.pp_tree.specs.declared.collector.Query.{Query, out-Query}
use Rattle.pp_tree.specs.declared.collector.Test.{Test, out-Test}
use Rattle.pp_tree.specs.declared.collector.Test.TheOpen.{Test-F}
use Rattle.pp_tree.specs.declared.expr.Expr.{Expr}
use Rattle.pp_values.specs.Datum.{Datum}
use Rattle.pp_values.specs.declared.fault.What.TheVariants as what
use Rattle.res_core.specs.Criteria.{Criterion, by_title, by_tag, by_attribute, negation, conjunction, disjunction}
use Rattle.res_core.specs.Criteria.{criteria_of}
use Rattle.eval_world.specs.Inner.{Inner}
use Rattle.eval_world.specs.Outcomes.{Step, ◌>>=◌, pure}
use Rattle.eval_world.specs.Worlds.{fault}
use Rattle.eval_world.specs.declared.here.Here.{Here}

-- ---- one test

-- `title == value`, `tag == value`, or an attribute by any other word
abbrev pub equal_to : List ℕ → Datum → Criterion
equal_to word value =
    if bytes_eq word (codes "title") then by_title value
    else if bytes_eq word (codes "tag") then by_tag value
    else by_attribute word value

-- `!=` matches what `==` does not
abbrev pub compared : Bool → Criterion → Criterion
compared true c = c
compared false c = negation c

unfoldable pub compare_rule : Inner → Comparison Expr → Here → Step Criterion
compare_rule inner c here = do
  value ← inner.value c.value here
  pure (compared c.equal (equal_to c.word value))

-- ---- tests put together

-- what a query in parentheses asks for
abbrev pub Asks : Type 0
Asks = Query → Here → Step Criterion

abbrev pub test_by : Inner → Asks → TestLayer → Here → Step Criterion
test_by inner asks (Test-F.Compare c) here = compare_rule inner c here
test_by inner asks (Test-F.Query q) here = asks q here

unfoldable pub test_rule : Inner → Asks → Test → Here → Step Criterion
test_rule inner asks t here = test_by inner asks (out-Test t) here

-- the tests in order, behind those that are there
unfoldable pub tests_from : Inner → Asks → List Criterion → List Test → Here → Step (List Criterion)
tests_from inner asks done [] here = pure done
tests_from inner asks done (t ∷ ts) here = do
  c ← test_rule inner asks t here
  tests_from inner asks (done ++ c ∷ []) ts here

-- `and` between them; one alone is itself
abbrev pub all_of : Inner → Asks → List Test → Here → Step Criterion
all_of inner asks (t ∷ []) here = test_rule inner asks t here
all_of inner asks ts here = do
  cs ← tests_from inner asks [] ts here
  pure (conjunction (criteria_of cs))

abbrev pub conjunction_rule : Inner → Asks → Conjunction → Here → Step Criterion
conjunction_rule inner asks c here = all_of inner asks (out-Conjunction c).tests here

unfoldable pub conjunctions_from : Inner → Asks → List Criterion → List Conjunction → Here → Step (List Criterion)
conjunctions_from inner asks done [] here = pure done
conjunctions_from inner asks done (c ∷ cs) here = do
  one ← conjunction_rule inner asks c here
  conjunctions_from inner asks (done ++ one ∷ []) cs here

-- `or` between them; one alone is itself
abbrev pub some_of : Inner → Asks → List Conjunction → Here → Step Criterion
some_of inner asks (c ∷ []) here = conjunction_rule inner asks c here
some_of inner asks cs here = do
  several ← conjunctions_from inner asks [] cs here
  pure (disjunction (criteria_of several))

-- ---- queries within one another

-- Where queries in parentheses stand within one another so often that no level is left it is F29, at the line of the
-- collector.
unfoldable pub query_within : ℕ → Inner → ℕ → Asks
query_within zero inner line q here = fault here line what.DepthLimit
query_within (suc n) inner line q here = some_of inner (query_within n inner line) (out-Query q).conjunctions here

-- as many as levels of syntax, so that no text of the grammar has more
abbrev pub query_levels : ℕ
query_levels = 200
