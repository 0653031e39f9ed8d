use Rattle.std.proofs.Common.{◌≡◌, option_map, ap, subst}
use Rattle.std.specs.Prelude.{IfOk}
use Rattle.pp_values.specs.Views.{view}
use Rattle.override_rules.proofs.fold.declared.Goals as goal
use Rattle.override_rules.specs.Changes.{set_by}

pub returns-in-Some : goal.returns-in-Some
returns-in-Some c =
    subst (λ x. IfOk c.set_to.result (λ o. option_map view o ≡ x)) (ap set_by c.in-Some.ensures) c.set_to.ensures

pub returns-in-None : goal.returns-in-None
returns-in-None c = ap set_by c.in-None.ensures
