use Rattle.std.proofs.Common.{sym, ap, ◌∙◌}
use Rattle.pp_values.specs.Views.{view}
use Rattle.override_rules.proofs.Walks.{is_set-to}
use Rattle.override_rules.proofs.testing.is_declared.Goals as goal
use Rattle.override_rules.specs.Changes.{set_by}
use Rattle.override_rules.specs.Rights.{is_set}

pub returns-in-Some : goal.returns-in-Some
returns-in-Some c =
    c.is_value.ensures
    ∙ sym (is_set-to (view c.in-Some.value.now))
    ∙ ap (λ o. is_set (set_by o)) c.in-Some.ensures

pub returns-in-None : goal.returns-in-None
returns-in-None c = ap (λ o. is_set (set_by o)) c.in-None.ensures
