use Rattle.std.proofs.Common.{ap, ◌∙◌}
use Rattle.res_core.specs.PlainAttributes.{are_plain}
use Rattle.catalog_finish.proofs.AttributeLemmas.{catalog_plain}
use Rattle.catalog_finish.proofs.resources.plain_resource.Goals as goal

pub new-requires : goal.new-requires
new-requires c =
    ap (λ r. are_plain r.attributes) c.in_ok-resource.ensures ∙ ap are_plain c.in_ok-attributes.ensures ∙ catalog_plain _
