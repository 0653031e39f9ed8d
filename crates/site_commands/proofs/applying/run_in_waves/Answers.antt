use Rattle.site_commands.proofs.Applied.{waves_free}
use Rattle.site_commands.proofs.applying.run_in_waves.Goals as goal

pub unreachable-requires : goal.unreachable-requires
unreachable-requires g c = waves_free c.args.catalog.now c.in-Err-Cycle.field-0 c.in-Err-Cycle.field-0-0 _ _
    c.requires.free c.in-Err-Cycle.field-0-is c.in-Err-Cycle.ensures
