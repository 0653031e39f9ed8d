use Rattle.std.proofs.Common.{◌≡◌, ◌∙◌, true, false, ap, sym, subst}
use Rattle.std.proofs.lemmas.Str.{IsUtf8-string_bytes}
use Rattle.std.specs.Str.{IsUtf8}
use Rattle.site_bundle.proofs.GatherSteps.{text_kept, no_text}
use Rattle.site_bundle.proofs.gathered.Gathered.put_text.Goals as goal

pub returns-in-Ok : goal.returns-in-Ok
returns-in-Ok c =
    text_kept _ _ _ _ _ c.args.self.now (c.new.ensures ∙ ap (λ v. v.items) c.in-Ok.ensures.ok ∙ c.into_vec.ensures)
    (subst IsUtf8 (sym c.new.ensures) (IsUtf8-string_bytes c.in-Ok.text)) c.in_ok-path-in-Ok.ensures
    c.in_ok-keep-in-Ok.ensures

pub returns : goal.returns
returns c =
    let wrong : IsUtf8 c.args.content → ⊥ =
    λ utf8. let not_so : false ≡ true = c.in-Err.ensures.succeeds (subst IsUtf8 (sym c.into_vec.ensures) utf8) in
    cc not_so in
    no_text _ _ _ c.args.self.now wrong c.bad_shape.ensures
