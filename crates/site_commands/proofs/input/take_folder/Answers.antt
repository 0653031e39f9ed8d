use Rattle.site_commands.proofs.Reading.{had_at}
use Rattle.site_commands.proofs.input.take_folder.Goals as goal

pub returns-in-Ok-clause-all : goal.returns-in-Ok-clause-all
returns-in-Ok-clause-all g c = had_at c.read_folder.result c.args.dir.now c.in-Ok.dir _ _ c.in-Ok.ensures
    c.read_folder.ensures.all
