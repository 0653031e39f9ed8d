use Rattle.std.proofs.Common.{option_map, sym, ap, ◌∙◌}
use Rattle.hiera_config.specs.Reached.{in_layer, in_module}
use Rattle.hiera_config.specs.Seen.{seen}
use Rattle.hiera_config.proofs.AddLemmas.{same_adds}
use Rattle.hiera_config.proofs.PlanLemmas.{no_plan_at}
use Rattle.hiera_config.proofs.reaching.add_module.Goals as goal

pub add_layer-requires : goal.add_layer-requires
add_layer-requires c = no_plan_at _ _

pub returns-in_ok-folder-in-Some : goal.returns-in_ok-folder-in-Some
returns-in_ok-folder-in-Some c =
    same_adds _ _ _ _ _
    (ap (λ n. in_module c.args.files.now (seen c.args.variables.now) (option_map (λ m. m.now) n)) c.in-Some.is
    ∙ ap (in_layer c.args.files.now (seen c.args.variables.now))
    (sym (c.as_str.ensures.text ∙ c.in_ok-folder-in-Some.ensures)))
    c.add_layer.ensures
