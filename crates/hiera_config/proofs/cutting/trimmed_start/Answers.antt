use Rattle.std.proofs.Common.{sym, ◌∙◌, rules}
use Rattle.hiera_config.proofs.BlankLemmas.{start_more, start_end, start_shorter}
use Rattle.hiera_config.proofs.cutting.trimmed_start.Goals as goal

pub loop-shorter-preserved : goal.loop-shorter-preserved
loop-shorter-preserved c = (search rules, sym (start_more _ _ c.in-Some.ensures) ∙ c.loop-shorter.invariant.1)

pub loop-shorter-smaller : goal.loop-shorter-smaller
loop-shorter-smaller c = start_shorter _ _ c.in-Some.ensures

pub returns : goal.returns
returns c = sym (start_end _ c.in_default.ensures) ∙ c.loop-shorter.invariant.1
