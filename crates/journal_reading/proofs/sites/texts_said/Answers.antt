use Rattle.std.proofs.Common.{Some, refl, sym, ap, ◌∙◌}
use Rattle.serde_json.specs.Find.{as_str}
use Rattle.journal_reading.specs.SiteReading.{texts_said}
use Rattle.journal_reading.proofs.MemberSteps.{member_found}
use Rattle.journal_reading.proofs.sites.texts_said.Goals as goal

pub loop-path-preserved : goal.loop-path-preserved
loop-path-preserved c =
    member_found as_str texts_said refl (λ k d ms. refl) _ _ _ _ _ _ _ _ c.in-Some.ensures.steps
    (c.in_ok-path.ensures ∙ c.as_str-in-loop-path.ensures.value)
    (sym c.in-Some-as_str.ensures ∙ ap Some (sym c.in_ok-text.ensures)) c.in_ok-push.ensures.ok
    ∙ c.loop-path.invariant
