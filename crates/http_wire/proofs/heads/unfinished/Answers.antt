use Rattle.std.proofs.Common.{◌≡◌, true, false, ap}
use Rattle.http_wire.specs.declared.places.Place.TheVariants.{Blank}
use Rattle.http_wire.specs.Places.{after, is_target}
use Rattle.http_wire.proofs.Fronts.{open_in_target, never_elsewhere}
use Rattle.http_wire.proofs.heads.unfinished.Goals as goal

pub returns-then-is_target : goal.returns-then-is_target
returns-then-is_target c =
    let place = ap is_target c.after.ensures in
    let target : is_target (after Blank c.args.bytes.now) ≡ true = cc (place, c.is_target.ensures, c.if-is_target.true) in
    open_in_target c.args.bytes.now c.requires target

pub returns-else-is_target : goal.returns-else-is_target
returns-else-is_target c =
    let place = ap is_target c.after.ensures in
    let other : is_target (after Blank c.args.bytes.now) ≡ false = cc (place, c.is_target.ensures, c.if-is_target.false) in
    never_elsewhere c.args.bytes.now c.requires other
