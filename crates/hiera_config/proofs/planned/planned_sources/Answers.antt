use Rattle.std.proofs.Common.{option_map}
use Rattle.hiera_config.specs.Found.{source_views}
use Rattle.hiera_config.proofs.SoundLemmas.{are_sources}
use Rattle.hiera_config.proofs.planned.planned_sources.Goals as goal

pub returns : goal.returns
returns c =
    are_sources c.args.files.now c.args.key.now (option_map (λ m. m.now) c.args.module_name) c.in-Some.global.now
    c.in-Some.environment.now (source_views c.in_ok-sources_in.field-0.items) c.in-Some.ensures.plans
    c.in-Some.ensures.module c.in_ok-sources_in.ensures
