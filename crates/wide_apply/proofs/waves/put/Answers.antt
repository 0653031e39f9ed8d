use Rattle.wide_apply.proofs.SortLemmas.{divided_more}
use Rattle.wide_apply.proofs.waves.put.Goals as goal

pub returns : goal.returns
returns c = λ wave tasks same divided.
    divided_more wave tasks c.args.waves.now.items divided c.args.planned c.replace-held.new.dest c.push.new.self
    c.index_mut.result.now
    c.replace-held.result c.args.number c.requires c.index_mut.ensures.value c.replace-held.ensures.value
    c.in_ok-push.ensures.items same
