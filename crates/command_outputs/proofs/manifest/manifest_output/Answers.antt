use Rattle.std.proofs.Common.{◌≡◌, ◌∙◌, true, false, ap, sym, subst}
use Rattle.std.proofs.lemmas.Str.{IsUtf8-string_bytes}
use Rattle.std.specs.Str.{IsUtf8}
use Rattle.command_outputs.proofs.Readable.{IfOk-text, IfOk-no_text}
use Rattle.command_outputs.proofs.manifest.manifest_output.Goals as goal

pub returns-in-Ok : goal.returns-in-Ok
returns-in-Ok c =
    IfOk-text _ _ _ _ (c.new.ensures ∙ ap (λ v. v.items) c.in-Ok.ensures.ok ∙ c.into_vec.ensures)
    (subst IsUtf8 (sym c.new.ensures) (IsUtf8-string_bytes c.in-Ok.manifest)) c.output_of_text.ensures

pub returns : goal.returns
returns c =
    let no_text : IsUtf8 c.args.input → ⊥ =
    λ utf8. let wrong : false ≡ true = c.in-Err.ensures.succeeds (subst IsUtf8 (sym c.into_vec.ensures) utf8) in
    cc wrong in
    IfOk-no_text _ c.args.node.now c.args.input no_text c.no_text.ensures
