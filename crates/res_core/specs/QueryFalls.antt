-- Each query within a query, and each query of a list, is smaller than the whole.
use Rattle.std.specs.Prelude.{◌≤◌, ◌≡◌, List, [], ◌∷◌, max, refl}
use Rattle.std.proofs.Common.{arith}
use denote.Param.Weighed.{most}
use Rattle.res_core.specs.declared.query.Query.{Query}
use Rattle.res_core.specs.declared.query.Query.TheVariants as v
use Rattle.res_core.specs.declared.query.Queries.TheDeep.{deep-Query}
use Rattle.res_core.specs.Criteria.{Criterion, criteria_of, criterion_size, criteria_size, criterion_list_size}
use Rattle.res_core.specs.QueryViews.{criterion, criteria}

pub criteria_size-criteria_of : (cs : List Criterion) → criteria_size (criteria_of cs) ≡ criterion_list_size cs
criteria_size-criteria_of [] = refl
criteria_size-criteria_of (c ∷ cs) = omega (arith, criteria_size-criteria_of cs)

pub deep_le-criterion_size : (x : Query) → deep-Query x ≤ criterion_size (criterion x)
deep_le-criterion_size v.All = omega arith
deep_le-criterion_size (v.Title value) = omega arith
deep_le-criterion_size (v.Tag value) = omega arith
deep_le-criterion_size (v.Attribute name value) = omega arith
deep_le-criterion_size (v.Not c) = omega arith
deep_le-criterion_size (v.And cs) = omega (arith, criteria_size-criteria_of cs)
deep_le-criterion_size (v.Or cs) = omega (arith, criteria_size-criteria_of cs)

pub queries_fall : (xs : List Query) → max (most deep-Query xs) 0 ≤ criterion_list_size (criteria xs)
queries_fall [] = omega arith
queries_fall (x ∷ xs) = omega (arith, deep_le-criterion_size x, queries_fall xs)
