use Rattle.wide_apply.proofs.WideSentence.{wide_report_says}
use Rattle.wide_apply.proofs.laws.a_wide_report_says_what_was_done.Goals as goal

pub returns : goal.returns
returns c = wide_report_says
