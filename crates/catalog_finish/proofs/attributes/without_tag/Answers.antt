use Rattle.std.proofs.Common.{◌≡◌, filter, not, ap, ◌∙◌, rules}
use Rattle.std.proofs.lemmas.Fn.{filter_same}
use Rattle.pp_values.specs.Rising.{is_rising}
use Rattle.pp_values.specs.Settings.{setting_names}
use Rattle.res_core.specs.AttributeViews.{settings}
use Rattle.catalog_finish.specs.Attributes.{is_tag}
use Rattle.catalog_finish.proofs.AttributeLemmas.{kept_filtered, filtered_rising}
use Rattle.catalog_finish.proofs.attributes.without_tag.Goals as goal

pub from_vec-requires : goal.from_vec-requires
from_vec-requires c =
    let kept = filter_same _ (λ a. not (is_tag a.name)) _ (λ x b f' k. search rules) _ _ c.retain.ensures.filtered in
    let all : settings c.retain.new.self.items ≡ filter (λ a. not (is_tag a.0)) c.args.attributes =
    ap settings kept ∙ kept_filtered (λ a. not (is_tag a.0)) c.into_vec-items.result.items
    ∙ ap (filter (λ a. not (is_tag a.0))) c.into_vec-items.ensures.attributes in
    ap (λ ss. is_rising (setting_names ss)) all
    ∙ filtered_rising (λ a. not (is_tag a.0)) c.args.attributes c.into_vec-items.ensures.rising

pub returns : goal.returns
returns c =
    let kept = filter_same _ (λ a. not (is_tag a.name)) _ (λ x b f' k. search rules) _ _ c.retain.ensures.filtered in
    c.from_vec.ensures ∙ ap settings kept ∙ kept_filtered (λ a. not (is_tag a.0)) c.into_vec-items.result.items
    ∙ ap (filter (λ a. not (is_tag a.0))) c.into_vec-items.ensures.attributes
