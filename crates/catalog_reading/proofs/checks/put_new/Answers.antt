use Rattle.std.proofs.Common.{not, ap, ◌∙◌}
use Rattle.catalog_reading.proofs.NamesApart.{found_so}
use Rattle.catalog_reading.proofs.checks.put_new.Goals as goal

pub returns-clause-new : goal.returns-clause-new
returns-clause-new c = c.in_ok-insert.ensures.added ∙ ap not (found_so c.args.name c.args.names.now.keys)
