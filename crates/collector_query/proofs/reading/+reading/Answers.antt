-- Each query that is looked at within others is smaller.
use Rattle.std.proofs.Common.{ap, arith}
use Rattle.res_core.specs.Criteria.{criterion_size, criterion_list_size}
use Rattle.res_core.specs.QueryFalls.{criteria_size-criteria_of}
use Rattle.res_core.specs.QueryViews.{criterion}
use Rattle.collector_query.proofs.Inner.{query_falls}
use Rattle.collector_query.proofs.reading.+reading.Goals as goal

pub reads_attributes-some_read-requires : goal.reads_attributes-some_read-requires
reads_attributes-some_read-requires t c =
    (omega (arith, c.decreases, ap criterion_list_size c.as_slice.ensures, ap (λ q. criterion_size (criterion q)) c.in-And.is, criteria_size-criteria_of c.in-And.queries), tt)

pub some_read-reads_attributes-requires : goal.some_read-reads_attributes-requires
some_read-reads_attributes-requires t c = (omega (arith, c.decreases, query_falls c.args.queries.now _ _ c.loop-query-test.true c.query-item.is), tt)

pub reads_attributes-some_read-requires-in-Or : goal.reads_attributes-some_read-requires-in-Or
reads_attributes-some_read-requires-in-Or t c =
    (omega (arith, c.decreases, ap criterion_list_size c.as_slice-in-Or.ensures, ap (λ q. criterion_size (criterion q)) c.in-Or.is, criteria_size-criteria_of c.in-Or.queries), tt)
