use Rattle.std.proofs.Common.{rules}
use Rattle.site_commands.proofs.Served.{tells_last}
use Rattle.site_commands.specs.Work.{HasLogged}
use Rattle.site_io.specs.Stream.{HasWritten}
use Rattle.site_commands.proofs.serving.write_told.Goals as goal

pub returns-in-Ok-write_log : goal.returns-in-Ok-write_log
returns-in-Ok-write_log g c =
    let wrote : HasWritten c.args.told.now.journal (g.K.Outside.stream c.args.out.now)
    (g.K.Outside.stream c.write_all.new.sink) = search rules in
    let logged : HasLogged c.args.told.now.lines (g.E.Outside.stream c.args.err.now)
    (g.E.Outside.stream c.write_log.new.err) = search rules in
    tells_last c.say_last.result c.service_ending.result c.args.ends.now c.args.stop _ _ _ _ _ _ _
    c.service_ending.ensures wrote logged c.say_last.ensures
