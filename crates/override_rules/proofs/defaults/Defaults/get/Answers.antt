use Rattle.std.proofs.Common.{option_map, sym, ap, ◌∙◌}
use Rattle.pp_values.specs.Views.{view}
use Rattle.override_rules.proofs.Kept.{seen, default_found}
use Rattle.override_rules.proofs.defaults.Defaults.get.Goals as goal
use Rattle.override_rules.specs.Defaults.{default_in}
use Rattle.override_rules.specs.Inside.{defaults_of}

pub returns : goal.returns
returns c =
    let es = c.self.inside.values.entries in
    let kind = c.args.kind.now in
    let name = c.args.name.now in
    seen c.get.result
    ∙ ap (option_map view) c.get.ensures.value
    ∙ sym (default_found es kind c.from-scope.result name)
    ∙ ap (λ s. default_in (defaults_of es) kind s name) c.from-scope.ensures
    ∙ ap (λ ds. default_in ds kind c.args.scope name) c.self.view_is
