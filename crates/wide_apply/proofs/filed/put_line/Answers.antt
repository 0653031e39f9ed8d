use Rattle.wide_apply.proofs.FiledLemmas.{filed_more}
use Rattle.wide_apply.proofs.filed.put_line.Goals as goal

pub returns-clause-filed : goal.returns-clause-filed
returns-clause-filed c = λ turned t same told filed.
    filed_more c.args.slots.now.items turned t filed c.replace-held.new.dest c.push.new.self c.index_mut.result.now
    c.replace-held.result
    c.args.at c.args.line c.requires c.index_mut.ensures.value c.replace-held.ensures.value
    c.in_ok-push.ensures.items same told
