-- The output to a manifest, by whether its bytes are a text.
use Rattle.std.proofs.Common.{◌≡◌, ℕ, true, false, List, sym, ap, ◌∙◌, subst, refl}
use Rattle.std.proofs.lemmas.Str.{is_utf8-from_IsUtf8, IsUtf8-from_is_utf8}
use Rattle.std.specs.Prelude.{Result, Ok, Err, IfOk, if◌then◌else◌}
use Rattle.std.specs.Str.{IsUtf8, is_utf8}
use Rattle.pp_values.specs.declared.memory.Memory.{Memory}
use Rattle.command_outputs.specs.declared.output.Output.{Output}
use Rattle.command_outputs.specs.Outputs.{output_meant, manifest_output, no_text_output}
use Rattle.compile_core.specs.Puppet.{manifest_meaning}

is_utf8-no_text : (input : List ℕ) → (IsUtf8 input → ⊥) → is_utf8 input ≡ false
is_utf8-no_text input no_text =
    elim (is_utf8 input) as (λ b. is_utf8 input ≡ b → b ≡ false)
    [ true ↦ λ is. absurd (no_text (IsUtf8-from_is_utf8 input is)) | false ↦ λ is. refl ] refl

-- an output to a text is one to bytes that are this text
pub IfOk-text : (r : Result Output Memory) (node text input : List ℕ) → text ≡ input → IsUtf8 text →
    IfOk r (λ output. output ≡ output_meant (manifest_meaning node text)) →
    IfOk r (λ output. output ≡ manifest_output node input)
IfOk-text (Ok output) node text input same utf8 is =
    subst (λ bytes. output ≡ manifest_output node bytes) same
    (is ∙ sym (ap (λ b. if b then output_meant (manifest_meaning node text) else no_text_output) (is_utf8-from_IsUtf8 text utf8)))
IfOk-text (Err memory) node text input same utf8 is = is

pub IfOk-no_text : (r : Result Output Memory) (node input : List ℕ) → (IsUtf8 input → ⊥) →
    IfOk r (λ output. output ≡ no_text_output) →
    IfOk r (λ output. output ≡ manifest_output node input)
IfOk-no_text (Ok output) node input no_text is =
    is ∙ sym (ap (λ b. if b then output_meant (manifest_meaning node input) else no_text_output)
    (is_utf8-no_text input no_text))
IfOk-no_text (Err memory) node input no_text is = is
