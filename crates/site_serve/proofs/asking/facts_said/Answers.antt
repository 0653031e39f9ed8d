use Rattle.std.proofs.Common.{sym, ◌∙◌, true≢false}
use Rattle.pp_values.specs.Views.{view}
use Rattle.site_serve.proofs.Asked.{said_given, not_said}
use Rattle.site_serve.proofs.asking.facts_said.Goals as goal

pub returns-in-Ok : goal.returns-in-Ok
returns-in-Ok c = said_given view _ _ _ c.in-Ok.ensures.ok.0 c.in-Ok.ensures.ok.1 c.given_facts.ensures

pub returns-in-Err-2 : goal.returns-in-Err-2
returns-in-Err-2 c = sym (not_said c.args.body.now (c.in-Err.ensures.err
    (λ memory. true≢false (sym (c.is_memory.ensures.1 memory) ∙ c.if-is_memory.false))))
