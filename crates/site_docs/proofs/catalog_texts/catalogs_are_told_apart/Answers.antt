use Rattle.site_docs.proofs.CatalogsBack.{catalogs_told_apart}
use Rattle.site_docs.proofs.catalog_texts.catalogs_are_told_apart.Goals as goal

pub returns : goal.returns
returns c = catalogs_told_apart
