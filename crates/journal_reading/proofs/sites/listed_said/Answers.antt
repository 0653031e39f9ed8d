use Rattle.std.proofs.Common.{option_map, refl, sym, ap, ◌∙◌}
use Rattle.pp_values.specs.Views.{view}
use Rattle.journal_reading.specs.SiteReading.{facts_said, listed_said}
use Rattle.journal_reading.proofs.MemberSteps.{member_found}
use Rattle.journal_reading.proofs.sites.listed_said.Goals as goal

pub loop-name-preserved : goal.loop-name-preserved
loop-name-preserved c =
    member_found facts_said listed_said refl (λ k d ms. refl) _ _ _ _ _ _ _ _ c.in-Some.ensures.steps
    (c.in_ok-name.ensures ∙ c.as_str.ensures.value)
    (sym c.in_ok-facts.ensures ∙ ap (option_map view) c.in-Some-2.is) c.in_ok-push.ensures
    ∙ c.loop-name.invariant
