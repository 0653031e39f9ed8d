use Rattle.site_bundle.proofs.ToldWalks.{told_reads}
use Rattle.site_bundle.proofs.folder.read_site.Goals as goal

pub returns-clause-told : goal.returns-clause-told
returns-clause-told g c = told_reads _ _ _ c.read_bundle_in.ensures
