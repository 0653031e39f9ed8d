use Rattle.hiera_config.specs.Found.{source_views}
use Rattle.hiera_config.proofs.SoundLemmas.{are_sources}
use Rattle.hiera_config.proofs.planned.sound_sources.Goals as goal

pub returns : goal.returns
returns c = λ name lacks.
    are_sources c.args.files.now c.args.key.now name c.in-Some.global.now c.in-Some.environment.now
    (source_views c.in_ok-sources_in.field-0.items) c.in-Some.ensures lacks c.in_ok-sources_in.ensures
