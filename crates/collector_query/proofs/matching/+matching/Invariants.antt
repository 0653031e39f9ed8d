-- The measures: the size of the query or the queries. The loops: what the queries from the index on say, all of them say.
use Rattle.std.proofs.Common.{◌≡◌, drop}
use Rattle.res_core.specs.Criteria.{criterion_size, criterion_list_size, criteria_of}
use Rattle.res_core.specs.QueryViews.{criterion, criteria}
use Rattle.collector_query.specs.Matches.{match_all, match_some}
use Rattle.collector_query.proofs.matching.+matching.Given as goal

abbrev pub decreases-matches : goal.decreases-matches
decreases-matches l = criterion_size (criterion l.query.now)

abbrev pub decreases-match_all : goal.decreases-match_all
decreases-match_all l = criterion_list_size (criteria l.queries.now)

abbrev pub decreases-match_some : goal.decreases-match_some
decreases-match_some l = criterion_list_size (criteria l.queries.now)

abbrev pub invariant-match_all-loop-query : goal.invariant-match_all-loop-query
invariant-match_all-loop-query l =
    match_all (criteria_of (criteria l.queries)) l.title l.tags l.attributes
    ≡ match_all (criteria_of (criteria (drop l.query-index l.queries))) l.title l.tags l.attributes

abbrev pub invariant-match_some-loop-query : goal.invariant-match_some-loop-query
invariant-match_some-loop-query l =
    match_some (criteria_of (criteria l.queries)) l.title l.tags l.attributes
    ≡ match_some (criteria_of (criteria (drop l.query-index l.queries))) l.title l.tags l.attributes
