use Rattle.std.proofs.Common.{subst}
use Rattle.site_commands.proofs.Journals.{stopped_asking}
use Rattle.site_commands.specs.Inputs.{ReadsAsking}
use Rattle.site_commands.proofs.asking_input.take_asking.Goals as goal

pub returns-in-Ok-clause-stop : goal.returns-in-Ok-clause-stop
returns-in-Ok-clause-stop g c = stopped_asking c.parse_asking.result c.in-Ok.bytes _ _ c.in-Ok.ensures.all
    (subst (λ b. ReadsAsking c.parse_asking.result b) c.as_slice.ensures c.parse_asking.ensures.read)
