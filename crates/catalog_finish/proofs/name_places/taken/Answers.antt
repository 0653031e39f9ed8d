-- What is left when a key's places were taken out.
use Rattle.std.specs.Prelude.{None}
use Rattle.catalog_finish.proofs.NameLemmas.{changed}
use Rattle.catalog_finish.proofs.name_places.taken.Goals as goal

pub returns-in-Some-clause-rest : goal.returns-in-Some-clause-rest
returns-in-Some-clause-rest c =
    changed c.args.places.now c.remove.new.self c.args.key.now None c.in-Some.ensures.updates.0
