use Rattle.site_serve.proofs.Asked.{filing_read, filing_stopped}
use Rattle.site_serve.proofs.asking.filing_asked.Goals as goal

pub returns-in-Ok : goal.returns-in-Ok
returns-in-Ok g c = filing_read c.args.node.now c.args.body.now c.in-Ok.report c.in-Ok.ensures

pub returns-in-Err : goal.returns-in-Err
returns-in-Err g c = filing_stopped _ c.args.node.now c.args.body.now c.in-Err.stop c.in-Err.ensures
