use Rattle.std.proofs.Common.{◌≡◌, ◌∙◌, ap, subst, true}
use Rattle.std.specs.Prelude.{IfOk}
use Rattle.pp_values.specs.Settings.{setting_names}
use Rattle.site_bundle.specs.SiteView.{are_rising}
use Rattle.command_outputs.proofs.ListedNames.{names_kept, if_names}
use Rattle.command_outputs.proofs.settle.node_names.Goals as goal

pub returns-clause-names : goal.returns-clause-names
returns-clause-names c =
    subst (λ all. IfOk c.names_in.result (λ names. names ≡ all))
    (names_kept _ ∙ ap setting_names (c.as_map.ensures.nodes ∙ c.nodes.ensures)) c.names_in.ensures

pub returns-clause-listed : goal.returns-clause-listed
returns-clause-listed c =
    if_names c.names_in.result c.args.site.now
    (subst (λ nodes. are_rising nodes ≡ true) c.nodes.ensures c.as_map.ensures.rising)
    (subst (λ all. IfOk c.names_in.result (λ names. names ≡ all))
    (names_kept _ ∙ ap setting_names (c.as_map.ensures.nodes ∙ c.nodes.ensures)) c.names_in.ensures)
