-- What a `Query` asks for. The queries within are seen as what they ask for already, so this goes one level deep.
use Rattle.std.specs.Prelude.{List, map}
use Rattle.pp_values.specs.Views.{view}
use Rattle.res_core.specs.declared.query.Query.{Query}
use Rattle.res_core.specs.declared.query.Query.TheVariants as v
use Rattle.res_core.specs.Criteria.{Criterion, all, by_title, by_tag, by_attribute, negation, conjunction, disjunction}
use Rattle.res_core.specs.Criteria.{criteria_of}

abbrev pub criterion : Query → Criterion
criterion v.All = all
criterion (v.Title value) = by_title (view value)
criterion (v.Tag value) = by_tag (view value)
criterion (v.Attribute name value) = by_attribute name (view value)
criterion (v.Not c) = negation c
criterion (v.And cs) = conjunction (criteria_of cs)
criterion (v.Or cs) = disjunction (criteria_of cs)

abbrev pub criteria : List Query → List Criterion
criteria = map criterion
