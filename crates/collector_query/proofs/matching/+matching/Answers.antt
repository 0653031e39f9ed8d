-- Each query that is matched within others is smaller.
use Rattle.std.proofs.Common.{ap, arith}
use Rattle.res_core.specs.Criteria.{criterion_size, criterion_list_size}
use Rattle.res_core.specs.QueryFalls.{criteria_size-criteria_of}
use Rattle.res_core.specs.QueryViews.{criterion}
use Rattle.collector_query.proofs.Inner.{query_falls}
use Rattle.collector_query.proofs.matching.+matching.Goals as goal

pub matches-match_all-requires : goal.matches-match_all-requires
matches-match_all-requires t c =
    (omega (arith, c.decreases, ap criterion_list_size c.as_slice.ensures, ap (λ q. criterion_size (criterion q)) c.in-And.is, criteria_size-criteria_of c.in-And.queries), tt)

pub matches-match_some-requires : goal.matches-match_some-requires
matches-match_some-requires t c =
    (omega (arith, c.decreases, ap criterion_list_size c.as_slice-in-Or.ensures, ap (λ q. criterion_size (criterion q)) c.in-Or.is, criteria_size-criteria_of c.in-Or.queries), tt)

pub match_all-matches-requires : goal.match_all-matches-requires
match_all-matches-requires t c = (omega (arith, c.decreases, query_falls c.args.queries.now _ _ c.loop-query-test.true c.query-item.is), tt)

pub match_some-matches-requires : goal.match_some-matches-requires
match_some-matches-requires t c = (omega (arith, c.decreases, query_falls c.args.queries.now _ _ c.loop-query-test.true c.query-item.is), tt)
