use Rattle.std.proofs.Common.{refl}
use Rattle.site_words.specs.Asked as a
use Rattle.site_commands.proofs.Worked.{ends_made}
use Rattle.site_commands.specs.Inputs.{none}
use Rattle.site_commands.proofs.commands.run_demo.Goals as goal

pub returns : goal.returns
returns g c = λ s n f m. ends_made c.write_made.result c.demo_output.result (a.demo c.args.nodes) none _ _
    (λ given. (given, (refl, refl))) (refl, refl) c.demo_output.ensures c.write_made.ensures
