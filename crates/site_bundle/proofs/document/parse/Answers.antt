use Rattle.std.proofs.Common.{sym, ◌∙◌, true≢false}
use Rattle.site_bundle.proofs.Parsed.{parsed, not_parsed}
use Rattle.site_bundle.proofs.document.parse.Goals as goal

pub returns-in-Ok : goal.returns-in-Ok
returns-in-Ok c = parsed _ _ c.in-Ok.ensures.ok.0 c.in-Ok.ensures.ok.1

pub returns-in-Err-2 : goal.returns-in-Err-2
returns-in-Err-2 c = not_parsed _ (c.in-Err.ensures.err
    (λ memory. true≢false (sym (c.is_memory.ensures.1 memory) ∙ c.if-is_memory.false)))
