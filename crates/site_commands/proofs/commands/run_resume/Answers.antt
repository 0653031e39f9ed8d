use Rattle.std.proofs.Common.{refl}
use Rattle.site_words.specs.Asked as a
use Rattle.site_commands.proofs.Worked.{ends_made, ends_stopped}
use Rattle.site_commands.specs.Inputs.{asking}
use Rattle.site_commands.proofs.commands.run_resume.Goals as goal

pub returns-in-Ok : goal.returns-in-Ok
returns-in-Ok g c = λ n f m. ends_made c.write_made.result c.answer_asking.result (a.resume c.args.workers)
    (asking c.in-Ok.asking.history.entries c.in-Ok.asking.requests) _ _ (λ given. (given, (refl, refl)))
    (c.in-Ok.ensures.all f) c.answer_asking.ensures c.write_made.ensures

pub returns-in-Err : goal.returns-in-Err
returns-in-Err g c = λ n f m. ends_stopped c.in-Err.stop c.give_up.result (a.resume c.args.workers) _ _
    c.give_up.ensures.ending (c.in-Err.ensures.stop f) c.give_up.ensures.line refl refl refl
