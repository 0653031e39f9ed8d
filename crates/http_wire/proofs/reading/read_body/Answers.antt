use Rattle.http_wire.proofs.Deciding.{ends_within, fails_within, answered, lost_within, lost_body}
use Rattle.http_wire.proofs.reading.read_body.Goals as goal

pub returns-in-Ended : goal.returns-in-Ended
returns-in-Ended g c =
    let e = c.in-Ended.ensures in ends_within c.args.count c.requires.head c.requires.announced c.requires.fits e.0 e.1 e.2

pub returns-in-Failed : goal.returns-in-Failed
returns-in-Failed g c =
    let e = c.in-Failed.ensures in fails_within c.args.count c.requires.head c.requires.announced c.requires.fits e.0 e.1 e.2

pub returns-in-Ok : goal.returns-in-Ok
returns-in-Ok g c =
    let e = c.in-Done.ensures in answered c.args.count c.requires.head c.requires.announced c.requires.fits e.0 _ _ e.1 c.in-Ok.ensures

pub returns-in-Err : goal.returns-in-Err
returns-in-Err g c =
    let e = c.in-Done.ensures in lost_within c.args.count c.requires.head c.requires.announced c.requires.fits e.0

pub returns-in-Memory : goal.returns-in-Memory
returns-in-Memory g c = lost_body c.args.count c.requires.head c.requires.announced c.in-Memory.ensures
