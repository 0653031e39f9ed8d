use Rattle.std.proofs.Common.{sym, ◌∙◌, rules}
use Rattle.hiera_config.proofs.BlankLemmas.{end_more, end_end, end_shorter}
use Rattle.hiera_config.proofs.cutting.trimmed_end.Goals as goal

pub loop-shorter-preserved : goal.loop-shorter-preserved
loop-shorter-preserved c = (search rules, sym (end_more _ _ c.in-Some.ensures) ∙ c.loop-shorter.invariant.1)

pub loop-shorter-smaller : goal.loop-shorter-smaller
loop-shorter-smaller c = end_shorter _ _ c.in-Some.ensures

pub returns : goal.returns
returns c = sym (end_end _ c.in_default.ensures) ∙ c.loop-shorter.invariant.1
