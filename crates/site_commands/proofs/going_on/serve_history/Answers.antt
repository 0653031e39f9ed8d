use Rattle.std.proofs.Common.{refl}
use Rattle.compile_core.specs.Puppet.{puppet}
use Rattle.history_audit.specs.Audits.{audited}
use Rattle.site_commands.proofs.GoneOn.{lacking}
use Rattle.site_commands.proofs.going_on.serve_history.Goals as goal

pub returns-in-Err : goal.returns-in-Err
returns-in-Err g c = lacking (audited puppet c.args.history.entries) c.args.history.entries c.args.count _ _ _ _ _ _
    c.refuse.result c.refuse.ensures.ending c.refuse.ensures.line refl refl
