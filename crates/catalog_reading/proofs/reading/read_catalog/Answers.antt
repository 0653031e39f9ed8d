use Rattle.std.proofs.Common.{arith}
use Rattle.json_documents.proofs.OneLines.{one_line_reads}
use Rattle.catalog_reading.specs.CatalogDocuments.{IsCatalogLine}
use Rattle.catalog_reading.specs.CatalogReading.{catalog_in}
use Rattle.catalog_reading.proofs.CatalogsRead.{catalog_one, catalog_sound, some_catalog}
use Rattle.catalog_reading.proofs.CatalogsBack.{catalog_complete}
use Rattle.catalog_reading.proofs.reading.read_catalog.Goals as goal

pub returns : goal.returns
returns c =
    one_line_reads IsCatalogLine catalog_in catalog_one catalog_sound catalog_complete some_catalog c.args.text.now
    (omega arith) _ c.read_whole.ensures
