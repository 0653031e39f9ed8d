use Rattle.std.proofs.Common.{ap}
use Rattle.std.specs.Prelude.{option_map}
use Rattle.site_commands.proofs.Reading.{had_folder, had_source}
use Rattle.site_commands.specs.Inputs.{site_from}
use Rattle.site_commands.proofs.input.take_bundle.Goals as goal

pub returns-in-Some-clause-all : goal.returns-in-Some-clause-all
returns-in-Some-clause-all g c = had_folder c.take_folder.result (site_from (option_map (λ d. d.now) c.args.dir))
    c.in-Some.dir.now _ _ _ (ap (λ o. site_from (option_map (λ d. d.now) o)) c.in-Some.is) c.take_folder.ensures.all

pub returns-in-None-clause-all : goal.returns-in-None-clause-all
returns-in-None-clause-all g c = had_source c.take_source.result (site_from (option_map (λ d. d.now) c.args.dir)) _ _ _
    (ap (λ o. site_from (option_map (λ d. d.now) o)) c.in-None.is) c.take_source.ensures.all
