use Rattle.std.proofs.Common.{ap, ◌∙◌}
use Rattle.std.specs.FinMap.{find}
use Rattle.pp_values.specs.Rising.{text_cmp}
use Rattle.hiera_config.proofs.site_data.SiteData.get.Goals as goal

pub file_at-requires : goal.file_at-requires
file_at-requires c = c.self.invariant.0

pub returns-clause-text : goal.returns-clause-text
returns-clause-text c = c.file_at.ensures.text ∙ ap (find text_cmp c.args.path.now) c.self.view_is
