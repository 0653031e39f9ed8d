use Rattle.std.proofs.Common.{◌≡◌, true, List, subst, ◌∙◌}
use Rattle.std.specs.FinMap.{is_sorted}
use Rattle.serde_json.proofs.Views.{view-Object}
use Rattle.pp_values.specs.Rising.{text_cmp}
use Rattle.site_bundle.specs.SiteView.{Listed}
use Rattle.site_docs.proofs.Nodes.{nodes_members, site_of_parts}
use Rattle.site_docs.proofs.site_texts.site_form.Goals as goal

pub returns : goal.returns
returns c =
    site_of_parts _ _ _ _ _ c.args.site.now c.in_ok-site_object.ensures
    (view-Object c.in_ok-file_forms.field-0) c.in_ok-file_forms.ensures
    (view-Object c.in_ok-node_forms.field-0)
    (nodes_members _ _ c.args.site.now.nodes c.in_ok-node_forms.ensures (c.as_map.ensures.nodes ∙ c.nodes.ensures)
    (subst (λ (ns : List Listed). is_sorted text_cmp ns ≡ true) c.nodes.ensures c.as_map.ensures.rising))
