use Rattle.std.proofs.Common.{◌≡◌, ◌++◌, filter, sym, ap, ◌∙◌}
use Rattle.std.proofs.Math.ListN.{drop_of_length-le}
use Rattle.std.proofs.lemmas.List.{append-nil}
use Rattle.pp_values.specs.Rising.{is_rising}
use Rattle.pp_values.specs.Settings.{setting_names}
use Rattle.res_core.specs.AttributeViews.{settings}
use Rattle.catalog_finish.specs.Attributes.{in_catalog, has_value}
use Rattle.catalog_finish.proofs.AttributeLemmas.{bound_rising}
use Rattle.catalog_finish.proofs.attributes.kept_of_bound.Goals as goal

pub from_vec-requires : goal.from_vec-requires
from_vec-requires c =
    let items = settings c.loop-attribute.items.items in
    let all : items ≡ in_catalog (filter has_value c.args.attributes.now) =
    sym (append-nil items)
    ∙ sym (ap (λ xs. items ++ in_catalog (filter has_value (settings xs)))
    (drop_of_length-le c.as_slice-attribute-items.result.now c.loop-attribute-test.false))
    ∙ c.loop-attribute.invariant in
    ap (λ ss. is_rising (setting_names ss)) all
    ∙ bound_rising c.args.attributes.now c.as_slice-attribute-items.ensures.rising
