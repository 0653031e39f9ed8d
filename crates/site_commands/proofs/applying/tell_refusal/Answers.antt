use Rattle.std.proofs.Common.{refl}
use Rattle.site_commands.proofs.Applied.{refusal_told, lacking}
use Rattle.site_commands.proofs.applying.tell_refusal.Goals as goal

pub returns-in-Ok : goal.returns-in-Ok
returns-in-Ok g c = λ by meant document m is. refusal_told c.deliver.result by c.args.node.now _ _ _ _ meant document m
    c.args.stop.now c.in-Ok.output is c.in-Ok.ensures c.deliver.ensures

pub returns-in-Err : goal.returns-in-Err
returns-in-Err g c = λ by meant document m is. lacking c.refuse.result by c.args.node.now _ _ _ _ meant document m
    c.refuse.ensures.ending c.refuse.ensures.line refl
