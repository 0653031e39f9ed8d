use Rattle.site_serve.proofs.Asked.{none_read}
use Rattle.site_serve.proofs.asking.report_of.Goals as goal

pub returns-in-Ok-None : goal.returns-in-Ok-None
returns-in-Ok-None c =
    none_read c.args.node.now c.args.body.now c.as_slice.result.now c.in-Ok-None.field-0 c.as_slice.ensures
    c.in-Ok-None.field-0-is c.in-Ok-None.ensures
