use Rattle.std.proofs.Common.{◌∙◌}
use Rattle.hiera_config.proofs.FileLemmas.{found_text, lent_text, lent_kept}
use Rattle.hiera_config.proofs.plan.file_at.Goals as goal

pub returns-clause-text : goal.returns-clause-text
returns-clause-text c =
    lent_text c.get.result _ c.get.ensures.value ∙ found_text c.args.files.now.entries c.args.path.now

pub returns-clause-kept : goal.returns-clause-kept
returns-clause-kept c =
    lent_kept c.get.result c.args.files.now.entries c.args.path.now c.get.ensures.value c.requires
