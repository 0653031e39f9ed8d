-- What is found among the attributes is found among what they say.
use Rattle.std.proofs.Common.{◌∙◌, ap, sym, find, option_map}
use Rattle.std.specs.Str.{bytes_eq}
use Rattle.pp_values.specs.Views.{view}
use Rattle.res_core.specs.AttributeViews.{set_in}
use Rattle.res_core.proofs.SettingLemmas.{found_setting}
use Rattle.res_core.proofs.attributes.Attributes.get.Goals as goal

pub returns-in-Some : goal.returns-in-Some
returns-in-Some c =
    ap (option_map (λ a. view a.value)) (c.in-Some.ensures ∙ ap (find (λ a. bytes_eq a.name c.args.name.now)) c.deref.ensures.value)
    ∙ sym (found_setting c.args.name.now c.self.inside.items.items)
    ∙ ap (λ ss. set_in ss c.args.name.now) c.self.view_is
