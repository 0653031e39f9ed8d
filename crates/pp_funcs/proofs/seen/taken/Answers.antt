-- What is left when a text's values were taken out.
use Rattle.std.specs.Prelude.{None}
use Rattle.pp_funcs.proofs.Alike.{changed}
use Rattle.pp_funcs.proofs.seen.taken.Goals as goal

pub returns-in-Some-clause-rest : goal.returns-in-Some-clause-rest
returns-in-Some-clause-rest c =
    changed c.args.seen.now c.remove.new.self c.args.text.now None c.in-Some.ensures.updates.0
