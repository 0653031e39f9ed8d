use Rattle.std.proofs.Common.{length, ap, sym, subst, ◌∙◌}
use Rattle.std.specs.Prelude.{IfOk}
use Rattle.site_core.specs.Asked.{all_asks}
use Rattle.site_core.specs.Runs.{Continues}
use Rattle.site_core.specs.declared.history.TheConstants.{MOST_ENTRIES}
use Rattle.shared_site.specs.Known.{Known}
use Rattle.shared_site.specs.Shows.{opened}
use Rattle.site_batch.proofs.Wholes.{first_seen}
use Rattle.site_batch.proofs.batch.run_batch.Goals as goal

pub answer_all-requires-clause-pass : goal.answer_all-requires-clause-pass
answer_all-requires-clause-pass g c κs within =
    first_seen c.in_ok-shared.shared (opened c.args.site MOST_ENTRIES) c.in_ok-shared.pass c.in_ok-shared.ensures

pub answer_all-requires-clause-given : goal.answer_all-requires-clause-given
answer_all-requires-clause-given g c κs within =
    ap (λ p. p.terms.given) c.in_ok-shared.ensures ∙ sym (ap (λ p. length p.front) c.in_ok-shared.ensures)

pub returns : goal.returns
returns g c =
    subst (λ (p : Known g.row.L-Site.Denot). IfOk c.answer_all.result (λ r. Continues g.L.Language.meaning
    g.L.Language.listed p.terms.limit p.terms.base c.args.workers p.front (all_asks c.args.requests.now)
    r.replies r.history.entries)) c.in_ok-shared.ensures c.answer_all.ensures
