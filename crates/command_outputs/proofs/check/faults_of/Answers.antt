use Rattle.std.proofs.Common.{◌≡◌, ◌∙◌, ap, map, subst}
use Rattle.std.specs.Prelude.{IfOk}
use Rattle.command_outputs.specs.Checks.{faults_among, read_as}
use Rattle.command_outputs.proofs.KeptReads.{reads_kept}
use Rattle.command_outputs.proofs.check.faults_of.Goals as goal

pub returns : goal.returns
returns c =
    subst (λ reads. IfOk c.faults_among.result (λ faults. map (λ f. f.now) faults.items ≡ faults_among reads))
    (reads_kept _ c.as_map.ensures.read ∙ ap (map read_as) (c.as_map.ensures.files ∙ c.manifests.ensures))
    c.faults_among.ensures
