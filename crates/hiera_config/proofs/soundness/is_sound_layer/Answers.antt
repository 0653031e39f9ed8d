use Rattle.std.proofs.Common.{sym, ◌∙◌}
use Rattle.hiera_config.specs.Keeping.{filed}
use Rattle.hiera_config.proofs.SoundLemmas.{sound_at}
use Rattle.hiera_config.proofs.soundness.is_sound_layer.Goals as goal

pub returns : goal.returns
returns c is =
    sound_at (filed c.args.files.now.entries) c.args.folder.now c.in_ok-path.path c.args.plan.now c.file_at.result
    c.in_ok-path.ensures c.file_at.ensures.text c.file_at.ensures.kept c.requires.planned (sym c.is_sound_by.ensures ∙ is)
