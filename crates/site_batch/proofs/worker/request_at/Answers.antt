use Rattle.site_batch.proofs.Requested.{is_at, facts_at}
use Rattle.site_batch.proofs.worker.request_at.Goals as goal

pub returns-clause-at : goal.returns-clause-at
returns-clause-at c = is_at _ c.args.requests.now c.args.index _ c.as_slice.ensures c.requires.inside
    c.index-as_slice-index.is

pub returns-clause-facts : goal.returns-clause-facts
returns-clause-facts c =
    facts_at c.args.requests.now c.args.index _ c.requires.facts
    (is_at _ c.args.requests.now c.args.index _ c.as_slice.ensures c.requires.inside c.index-as_slice-index.is)
