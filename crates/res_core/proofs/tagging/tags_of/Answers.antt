use Rattle.std.proofs.Common.{◌≡◌, subst, IfOk}
use Rattle.res_core.proofs.NameLemmas.{tags_made}
use Rattle.res_core.proofs.tagging.tags_of.Goals as goal

pub returns : goal.returns
returns c =
    subst (λ ts. IfOk c.with_names.result (λ t. t ≡ ts))
    (tags_made c.args.kind.now c.args.title.now c.args.given.now c.args.container.now c.in_ok-all.all c.in_ok-own.own.items
    c.in_ok-all.ensures.rising c.in_ok-all.ensures.names c.in_ok-own.ensures)
    c.with_names.ensures
