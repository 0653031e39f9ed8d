use Rattle.std.proofs.Common.{ap, sym, subst, ◌∙◌}
use Rattle.list_sums.specs.Counts.{below}
use Rattle.site_core.specs.Asked.{all_asks}
use Rattle.site_core.specs.Runs.{Continues}
use Rattle.site_batch.specs.Answers.{AreOrdered}
use Rattle.site_batch.specs.Shares.{seen_by}
use Rattle.site_batch.proofs.Requested.{asks_length}
use Rattle.site_batch.proofs.Wholes.{are_of, all_known, all_weights, all_are, whole}
use Rattle.site_batch.proofs.batch.answer_all.Goals as goal

pub gather-requires : goal.gather-requires
gather-requires g c =
    (are_of g.L.Language.meaning g.L.Language.listed (all_asks c.args.requests.now) c.args.shared (seen_by c.args.pass)
    c.in_ok-claims.claims c.in_ok-shares.shares.items c.in_ok-works.works.items c.in_ok-shares.ensures.new c.in_ok-works.ensures).0

pub all_drawn-requires-clause-all : goal.all_drawn-requires-clause-all
all_drawn-requires-clause-all g c =
    (all_weights g.L.Language.meaning g.L.Language.listed (all_asks c.args.requests.now) c.args.shared (seen_by c.args.pass)
    c.args.workers c.in_ok-claims.claims c.in_ok-shares.shares.items c.in_ok-works.works.items c.in_ok-pass.pass
    c.in_ok-pass.seat c.in_ok-pass.answers.items c.in_ok-shares.ensures c.in_ok-works.ensures c.in_ok-pass.ensures.gathered).1

pub all_drawn-requires-clause-past : goal.all_drawn-requires-clause-past
all_drawn-requires-clause-past g c =
    all_known g.L.Language.meaning g.L.Language.listed (all_asks c.args.requests.now) c.args.shared (seen_by c.args.pass)
    c.args.workers c.in_ok-claims.claims c.in_ok-shares.shares.items c.in_ok-works.works.items c.in_ok-pass.pass
    c.in_ok-pass.seat c.in_ok-pass.answers.items c.in_ok-shares.ensures c.requires.some c.in_ok-works.ensures
    c.in_ok-pass.ensures.gathered

pub in_order-requires : goal.in_order-requires
in_order-requires g c =
    all_are g.L.Language.meaning g.L.Language.listed (all_asks c.args.requests.now) c.len-2.result c.in_ok-shares.shares.items
    c.in_ok-works.works.items c.in_ok-pass.pass c.in_ok-pass.seat c.in_ok-pass.answers.items c.in_ok-works.ensures
    c.in_ok-pass.ensures.gathered (λ i. c.all_drawn.ensures i
    ∙ ap (λ n. below n i) (c.in_ok-claims.ensures.0 ∙ c.len.ensures ∙ sym c.len-2.ensures))

pub close-requires-clause-all : goal.close-requires-clause-all
close-requires-clause-all g c =
    (all_weights g.L.Language.meaning g.L.Language.listed (all_asks c.args.requests.now) c.args.shared (seen_by c.args.pass)
    c.args.workers c.in_ok-claims.claims c.in_ok-shares.shares.items c.in_ok-works.works.items c.in_ok-pass.pass
    c.in_ok-pass.seat c.in_ok-pass.answers.items c.in_ok-shares.ensures c.in_ok-works.ensures c.in_ok-pass.ensures.gathered).0

pub returns : goal.returns
returns g c =
    subst (λ l. Continues g.L.Language.meaning g.L.Language.listed c.args.pass.terms.limit c.args.pass.terms.base
    c.args.workers c.args.pass.front (all_asks c.args.requests.now) l c.close.result.entries) (sym c.from_vec.ensures)
    (whole g.L.Language.meaning g.L.Language.listed (all_asks c.args.requests.now) c.args.shared (seen_by c.args.pass)
    c.args.workers c.in_ok-claims.claims c.in_ok-shares.shares.items c.in_ok-works.works.items
    c.in_ok-pass.pass c.in_ok-pass.seat c.in_ok-pass.answers.items c.in_ok-replies.replies.items
    c.close.result.entries c.requires.given c.in_ok-shares.ensures c.requires.some c.in_ok-works.ensures
    c.in_ok-pass.ensures.gathered
    (λ i. c.all_drawn.ensures i
    ∙ ap (λ n. below n i) (c.in_ok-claims.ensures.0 ∙ c.len.ensures ∙ sym (asks_length _ c.args.requests.now)))
    (subst (λ n. AreOrdered n c.in_ok-pass.answers.items c.in_ok-replies.replies.items)
    (c.len-2.ensures ∙ sym (asks_length _ c.args.requests.now))
    c.in_ok-replies.ensures) c.close.ensures.legal c.close.ensures.front
    c.close.ensures.few c.close.ensures.own)
