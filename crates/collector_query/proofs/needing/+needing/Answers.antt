-- Each query that is looked at within others is smaller.
use Rattle.std.proofs.Common.{ap, arith}
use Rattle.res_core.specs.Criteria.{criterion_size, criterion_list_size}
use Rattle.res_core.specs.QueryFalls.{criteria_size-criteria_of}
use Rattle.res_core.specs.QueryViews.{criterion}
use Rattle.collector_query.proofs.Inner.{query_falls}
use Rattle.collector_query.proofs.needing.+needing.Goals as goal

pub needed_tag-first_needed-requires : goal.needed_tag-first_needed-requires
needed_tag-first_needed-requires t c =
    (omega (arith, c.decreases, ap criterion_list_size c.as_slice.ensures, ap (λ q. criterion_size (criterion q)) c.in-And.is, criteria_size-criteria_of c.in-And.queries), tt)

pub first_needed-needed_tag-requires : goal.first_needed-needed_tag-requires
first_needed-needed_tag-requires t c = (omega (arith, c.decreases, query_falls c.args.queries.now _ _ c.loop-query-test.true c.query-item.is), tt)
