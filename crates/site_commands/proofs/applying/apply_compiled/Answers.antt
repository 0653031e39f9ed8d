use Rattle.site_commands.proofs.Applied.{applies_as, compiled_as, uncompiled_as}
use Rattle.site_commands.proofs.applying.apply_compiled.Goals as goal

pub returns-in-Ok : goal.returns-in-Ok
returns-in-Ok g c = λ meant is. applies_as c.apply_catalog.result c.args.workers c.args.node.now meant c.in-Ok.catalog
    c.args.document _ _ _ _
    _ _ (compiled_as c.args.compiled meant c.in-Ok.catalog c.in-Ok.is is) c.apply_catalog.ensures

pub returns-in-Err : goal.returns-in-Err
returns-in-Err g c = λ meant is. c.tell_refusal.ensures c.args.workers meant c.args.document _
    (uncompiled_as c.args.compiled meant c.in-Err.stop c.in-Err.is is)
