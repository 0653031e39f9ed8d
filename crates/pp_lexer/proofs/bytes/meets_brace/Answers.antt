use Rattle.std.proofs.Common.{arith, length, ◌<◌, ◌∙◌}
use Rattle.std.proofs.lemmas.List.{take_rest}
use Rattle.pp_lexer.proofs.ByteLemmas.{meets_brace_goes}
use Rattle.pp_lexer.proofs.bytes.meets_brace.Goals as goal

pub loop-rest-preserved : goal.loop-rest-preserved
loop-rest-preserved c =
    let z = c.loop-rest.rest.now in
    let some : 0 < length z = grind arith in
    rw (take_rest z c.blank_len-len.result) (meets_brace_goes z c.blank_len-len.result some c.blank_len-len.ensures.value c.if-len-eq0.false ∙ c.loop-rest.invariant)
