use Rattle.std.proofs.Common.{◌∙◌}
use Rattle.compile_core.proofs.ReadFiles.{manifests_read}
use Rattle.compile_core.proofs.compiling.environment_of.Goals as goal

pub returns : goal.returns
returns c =
    c.new.ensures ∙ manifests_read c.args.main.now c.as_map.result.now.entries c.data_of.result.now c.args.site.now
    c.as_map.ensures.read (c.as_map.ensures.files ∙ c.manifests.ensures) c.data_of.ensures
