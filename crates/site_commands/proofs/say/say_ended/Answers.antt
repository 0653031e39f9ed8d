use Rattle.std.proofs.Common.{subst}
use Rattle.site_io.specs.Stream.{HasWritten}
use Rattle.site_commands.proofs.Saying.{says_later}
use Rattle.site_commands.proofs.say.say_ended.Goals as goal

pub returns-in-Ok : goal.returns-in-Ok
returns-in-Ok g c =
    let first : HasWritten c.args.word.now (g.E.Outside.stream c.args.err.now)
    (g.E.Outside.stream c.write_all.new.sink) =
    subst (λ bytes. HasWritten bytes (g.E.Outside.stream c.args.err.now) (g.E.Outside.stream c.write_all.new.sink))
    c.as_bytes.ensures.value c.in-Ok.ensures.all in
    says_later _ _ _ _ _ first c.say.ensures
