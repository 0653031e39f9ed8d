use Rattle.std.proofs.Common.{arith, sym, ◌∙◌, rules}
use Rattle.std.proofs.lemmas.Grind.{common_steps}
use Rattle.pp_lexer.proofs.TextLemmas.{quoted_goes}
use Rattle.pp_lexer.proofs.texts.quoted_end.Goals as goal

pub loop-at-preserved : goal.loop-at-preserved
loop-at-preserved c = sym (quoted_goes _ _ _ _ c.loop-at-test.true (first_of (search rules, grind (arith, common_steps))) (first_of (search rules, grind (arith, common_steps)))) ∙ c.loop-at.invariant
