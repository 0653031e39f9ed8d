use Rattle.catalog_finish.proofs.UnrelatedLemmas.{unrelated}
use Rattle.catalog_finish.proofs.relating.row_related.Goals as goal
use Rattle.catalog_finish.specs.Sources.{sources_of}

pub returns-then-not-may_relate : goal.returns-then-not-may_relate
returns-then-not-may_relate c =
    unrelated (sources_of c.args.tables.now) c.args.index c.args.row.now c.args.edges
    (c.may_relate.ensures.holds c.if-not-may_relate.true)
