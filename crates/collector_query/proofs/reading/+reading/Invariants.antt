-- The measures: the size of the query or the queries. The loop: what the queries from the index on say, all of them say.
use Rattle.std.proofs.Common.{◌≡◌, drop}
use Rattle.res_core.specs.Criteria.{criterion_size, criterion_list_size, criteria_of}
use Rattle.res_core.specs.QueryViews.{criterion, criteria}
use Rattle.collector_query.specs.Reading.{some_read}
use Rattle.collector_query.proofs.reading.+reading.Given as goal

abbrev pub decreases-reads_attributes : goal.decreases-reads_attributes
decreases-reads_attributes l = criterion_size (criterion l.query.now)

abbrev pub decreases-some_read : goal.decreases-some_read
decreases-some_read l = criterion_list_size (criteria l.queries.now)

abbrev pub invariant-some_read-loop-query : goal.invariant-some_read-loop-query
invariant-some_read-loop-query l =
    some_read (criteria_of (criteria l.queries)) ≡ some_read (criteria_of (criteria (drop l.query-index l.queries)))
