use Rattle.std.proofs.Common.{arith}
use Rattle.site_core.specs.Asked.{all_asks}
use Rattle.site_core.specs.declared.history.TheConstants.{MOST_ENTRIES}
use Rattle.site_core.proofs.Legal.{some_entry}
use Rattle.history_tools.proofs.ByWorkers.{front_inside, front_counted, goes_on}
use Rattle.history_tools.proofs.rounds.run_round.Goals as goal

pub by_workers-requires-clause-some : goal.by_workers-requires-clause-some
by_workers-requires-clause-some g c =
    let some = some_entry g.L.Language.meaning c.args.written.history.entries c.requires.legal in
    omega (arith, some, c.len-start.ensures)

pub by_workers-requires-clause-inside : goal.by_workers-requires-clause-inside
by_workers-requires-clause-inside g c =
    front_inside g.L.Language.meaning g.L.Language.listed MOST_ENTRIES c.args.workers c.args.written.history.entries
    c.in_ok-now.now.entries (all_asks c.args.requests.now) c.in_ok-now.replies.items c.len-start.result
    c.author_behind-base.result c.len-start.ensures c.in_ok-now.ensures

pub by_workers-requires-clause-counted : goal.by_workers-requires-clause-counted
by_workers-requires-clause-counted g c =
    front_counted g.L.Language.meaning g.L.Language.listed MOST_ENTRIES c.args.workers c.args.written.history.entries
    c.in_ok-now.now.entries (all_asks c.args.requests.now) c.in_ok-now.replies.items c.len-start.result
    c.author_behind-base.result c.len-start.ensures c.in_ok-now.ensures c.args.written.counts c.args.written.counted

pub returns : goal.returns
returns g c =
    goes_on g.L.Language.meaning g.L.Language.listed MOST_ENTRIES c.args.workers c.args.written.history.entries
    c.in_ok-now.now.entries (all_asks c.args.requests.now) c.in_ok-now.replies.items c.len-start.result
    c.author_behind-base.result c.len-start.ensures c.in_ok-now.ensures c.in_ok-next.next.history.entries
    c.author_behind-base.ensures c.in_ok-next.ensures
