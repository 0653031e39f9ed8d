use Rattle.std.proofs.Common.{ap, ◌∙◌, ◌++◌}
use Rattle.res_core.proofs.NameLemmas.{all_in_order}
use Rattle.res_core.proofs.tagging.with_many.Goals as goal

pub returns : goal.returns
returns c =
    all_in_order c.args.tags c.args.names.items _ _ c.into_vec-all.ensures.rising
    (c.in_ok-append.ensures.items ∙ ap (λ ts. ts ++ c.args.names.items) c.into_vec-all.ensures.tags) c.in_order.ensures
