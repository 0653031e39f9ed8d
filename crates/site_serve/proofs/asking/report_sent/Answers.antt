use Rattle.site_serve.proofs.Asked.{bad_sent}
use Rattle.site_serve.proofs.asking.report_sent.Goals as goal

pub returns-in-Err-Bad : goal.returns-in-Err-Bad
returns-in-Err-Bad c =
    bad_sent c.in-Err-Bad.field-0 _ c.args.body.now c.in-Ok.text.now c.in-Err-Bad.field-0-is c.in-Ok.ensures.cases.0
    c.in-Err-Bad.ensures
