use Rattle.std.proofs.Common.{◌≡◌, ap, ◌∙◌, rules, arith}
use Rattle.std.proofs.lemmas.Grind.{common_steps}
use Rattle.pp_values.specs.Rising.{is_rising}
use Rattle.pp_values.specs.Settings.{setting_names}
use Rattle.res_core.specs.AttributeViews.{settings}
use Rattle.catalog_finish.specs.Attributes.{in_catalog}
use Rattle.catalog_finish.proofs.AttributeLemmas.{catalog_rising}
use Rattle.catalog_finish.proofs.attributes.kept_of_set.Goals as goal

pub from_vec-requires : goal.from_vec-requires
from_vec-requires c =
    let all : settings c.loop-attribute.items.items ≡ in_catalog c.args.attributes =
    first_of (search rules, grind (arith, common_steps)) in
    ap (λ ss. is_rising (setting_names ss)) all
    ∙ catalog_rising c.args.attributes c.into_vec-attribute-items.ensures.rising
