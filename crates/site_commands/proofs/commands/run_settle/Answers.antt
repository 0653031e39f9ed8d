use Rattle.std.proofs.Common.{refl}
use Rattle.site_words.specs.Asked as a
use Rattle.site_commands.proofs.Worked.{ends_made, ends_stopped}
use Rattle.site_commands.specs.Inputs.{site}
use Rattle.site_commands.proofs.commands.run_settle.Goals as goal

pub returns-in-Ok : goal.returns-in-Ok
returns-in-Ok g c =
    λ n f m. ends_made c.write_made.result c.settle_output.result (a.settle c.args.rounds c.args.workers)
    (site c.in-Ok.bundle) _ _ (λ given. (given, (refl, refl))) (c.in-Ok.ensures.all f) c.settle_output.ensures
    c.write_made.ensures

pub returns-in-Err : goal.returns-in-Err
returns-in-Err g c = λ n f m. ends_stopped c.in-Err.stop c.give_up.result (a.settle c.args.rounds c.args.workers) _ _
    c.give_up.ensures.ending (c.in-Err.ensures.stop f) c.give_up.ensures.line refl refl refl
