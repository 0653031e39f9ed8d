use Rattle.hiera_config.specs.Seen.{seen}
use Rattle.hiera_config.proofs.AddLemmas.{same_adds, level_comes}
use Rattle.hiera_config.proofs.PlanLemmas.{fits_in}
use Rattle.hiera_config.proofs.reaching.add_planned.Goals as goal

pub returns-in-Some : goal.returns-in-Some
returns-in-Some c =
    same_adds _ _ _ _ _
    (level_comes c.args.files.now (seen c.args.variables.now) c.args.folder.now c.args.level.now
    c.in-Some.fixed.now.path
    (fits_in c.args.files.now c.args.folder.now c.args.level.now c.args.fixed c.in-Some.fixed c.in-Some.is
    c.requires).0)
    c.add_fixed.ensures
