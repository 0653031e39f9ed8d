use Rattle.site_bundle.proofs.WalkSteps.{goes_listed, goes_unlisted, goes_fault_listing}
use Rattle.site_bundle.proofs.walking.list_names.Goals as goal

pub returns-in-Names : goal.returns-in-Names
returns-in-Names g c = goes_listed _ _ _ c.in_ok-called.ensures c.in-Names.ensures

pub returns-in-Missing : goal.returns-in-Missing
returns-in-Missing g c =
    goes_unlisted _ _ _ c.new.ensures c.in_ok-called.ensures c.in-Missing.ensures.0 c.in-Missing.ensures.1
    c.in-Missing.ensures.2

pub returns-in-Failed : goal.returns-in-Failed
returns-in-Failed g c =
    goes_fault_listing _ _ _ _ c.in_ok-called.ensures c.in-Failed.ensures.0 c.in-Failed.ensures.1
    c.in-Failed.ensures.2
