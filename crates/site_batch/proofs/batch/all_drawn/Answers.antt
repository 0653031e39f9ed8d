use Rattle.site_batch.proofs.Wholes.{drawn_all}
use Rattle.site_batch.proofs.batch.all_drawn.Goals as goal

pub returns : goal.returns
returns c = drawn_all c.next.result c.args.seat c.next.new.seat c.args.claims.now c.next.ensures.draws c.requires.claims
    c.requires.all c.requires.past
