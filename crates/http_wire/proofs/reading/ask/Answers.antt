use Rattle.std.proofs.Common.{◌≡◌, false, sym, ap, ◌∙◌}
use Rattle.http_wire.specs.Places.{is_ended}
use Rattle.http_wire.proofs.Watching.{not_ended}
use Rattle.http_wire.proofs.reading.ask.Goals as goal

pub returns-then-bytes-asked : goal.returns-then-bytes-asked
returns-then-bytes-asked c =
    let lacking : is_ended c.args.place ≡ false = cc (c.is_ended.ensures, c.if-not-is_ended.ensures, c.if-not-is_ended.true) in
    not_ended c.args.bytes.now (ap is_ended (sym c.requires.place) ∙ lacking)
