use Rattle.std.proofs.Common.{◌≡◌, IfOk, option_map, sym, ap, subst, ◌∙◌}
use Rattle.std.specs.Prelude.{option_and_then}
use Rattle.pp_values.specs.Views.{view}
use Rattle.override_rules.proofs.Among.{each_found}
use Rattle.override_rules.specs.Meaning.{attribute_of}
use Rattle.catalog_finish.proofs.attributes.set_attribute.Goals as goal

pub returns : goal.returns
returns c =
    subst (λ meant. IfOk c.attribute.result (λ o. option_map view o ≡ meant))
    (ap (option_and_then (λ r. attribute_of c.args.lines.now r c.args.name.now)) c.requires
    ∙ sym (each_found c.args.lines.now c.args.row.now c.args.name.now)) c.attribute.ensures
