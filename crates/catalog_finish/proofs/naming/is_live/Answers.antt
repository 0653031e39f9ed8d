use Rattle.std.proofs.Common.{ap, ◌∙◌}
use Rattle.res_book.specs.Rows.{is_live, passes}
use Rattle.catalog_finish.proofs.naming.is_live.Goals as goal

pub returns : goal.returns
returns c = c.live.ensures ∙ ap (passes is_live) c.requires
