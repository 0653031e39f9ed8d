-- The faults so far, and those of the manifests that are left, are those of all.
use Rattle.std.proofs.Common.{◌≡◌, ◌++◌, map}
use Rattle.command_outputs.specs.Checks.{faults_among}
use Rattle.command_outputs.proofs.check.faults_among.Given as goal

abbrev pub invariant-loop-manifest : goal.invariant-loop-manifest
invariant-loop-manifest l =
    map (λ f. f.now) l.faults.items ++ faults_among (map (λ e. e.1.read) l.manifest-iterator)
    ≡ faults_among (map (λ e. e.1.read) l.manifests.entries)
