use Rattle.site_bundle.proofs.WalkSteps.{leads_start, leads_next, leads_end, leads_stop, goes_reading}
use Rattle.site_bundle.proofs.folder.read_main.Goals as goal

pub returns-in_err-read_site_file : goal.returns-in_err-read_site_file
returns-in_err-read_site_file g c =
    leads_stop _ _ _ _ _ _ (leads_start _ _) c.from_residual.ensures.1 c.in_err-read_site_file.ensures

pub returns : goal.returns
returns g c =
    leads_end _ _ _ _ (leads_next _ _ _ (leads_start _ _) c.in_ok-read_site_file.ensures.ends
    c.in_ok-read_site_file.ensures.same) (goes_reading _ _ _ _ c.with_main.ensures.reads)
