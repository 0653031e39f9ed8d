use Rattle.site_bundle.proofs.WalkSteps.{goes_read, goes_missing, goes_longer, goes_fault_reading}
use Rattle.site_bundle.proofs.walking.read_content.Goals as goal

pub returns-in-Bytes-clause-goes : goal.returns-in-Bytes-clause-goes
returns-in-Bytes-clause-goes g c = goes_read _ _ _ c.args.path.now c.in_ok-called.ensures c.in-Bytes.ensures

pub returns-in-Missing-clause-goes : goal.returns-in-Missing-clause-goes
returns-in-Missing-clause-goes g c =
    goes_missing _ _ c.args.path.now c.in_ok-called.ensures c.in-Missing.ensures.0 c.in-Missing.ensures.1
    c.in-Missing.ensures.2

pub returns-in-TooLarge-clause-goes : goal.returns-in-TooLarge-clause-goes
returns-in-TooLarge-clause-goes g c =
    goes_longer _ _ _ c.args.path.now c.in_ok-called.ensures c.too_large.ensures c.in-TooLarge.ensures.0
    c.in-TooLarge.ensures.1 c.in-TooLarge.ensures.2

pub returns-in-Failed-clause-goes : goal.returns-in-Failed-clause-goes
returns-in-Failed-clause-goes g c =
    goes_fault_reading _ _ _ _ c.in_ok-called.ensures c.in-Failed.ensures.0 c.in-Failed.ensures.1
    c.in-Failed.ensures.2
