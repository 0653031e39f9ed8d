use Rattle.std.proofs.Common.{length, ap, sym, subst, ◌∙◌}
use Rattle.site_core.specs.Asked.{all_asks}
use Rattle.site_core.specs.Runs.{Continues}
use Rattle.site_core.specs.declared.history.TheConstants.{MOST_ENTRIES}
use Rattle.shared_site.specs.Known.{Known}
use Rattle.shared_site.specs.Shows.{resumed}
use Rattle.site_batch.proofs.Wholes.{first_seen}
use Rattle.site_batch.proofs.batch.resume_batch.Goals as goal

pub answer_all-requires-clause-pass : goal.answer_all-requires-clause-pass
answer_all-requires-clause-pass g c κs within =
    first_seen c.in_ok-shared.shared (resumed c.args.history.entries MOST_ENTRIES) c.in_ok-shared.pass
    c.in_ok-shared.ensures.1

pub answer_all-requires-clause-given : goal.answer_all-requires-clause-given
answer_all-requires-clause-given g c κs within =
    ap (λ p. p.terms.given) c.in_ok-shared.ensures.1 ∙ sym (ap (λ p. length p.front) c.in_ok-shared.ensures.1)
