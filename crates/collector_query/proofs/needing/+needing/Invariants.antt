-- The measures: the size of the query or the queries. The loop: what the queries from the index on need, all of them need.
use Rattle.std.proofs.Common.{◌≡◌, drop}
use Rattle.res_core.specs.Criteria.{criterion_size, criterion_list_size, criteria_of}
use Rattle.res_core.specs.QueryViews.{criterion, criteria}
use Rattle.collector_query.specs.Needed.{first_needed}
use Rattle.collector_query.proofs.needing.+needing.Given as goal

abbrev pub decreases-needed_tag : goal.decreases-needed_tag
decreases-needed_tag l = criterion_size (criterion l.query.now)

abbrev pub decreases-first_needed : goal.decreases-first_needed
decreases-first_needed l = criterion_list_size (criteria l.queries.now)

abbrev pub invariant-first_needed-loop-query : goal.invariant-first_needed-loop-query
invariant-first_needed-loop-query l =
    first_needed (criteria_of (criteria l.queries))
    ≡ first_needed (criteria_of (criteria (drop l.query-index l.queries)))
