use Rattle.std.proofs.Common.{refl}
use Rattle.site_words.specs.Asked as a
use Rattle.site_commands.proofs.GoneOn.{ends_served_on}
use Rattle.site_commands.proofs.Worked.{ends_stopped}
use Rattle.site_commands.proofs.going_on.run_serve_on.Goals as goal

pub returns-in-Ok : goal.returns-in-Ok
returns-in-Ok g c = λ f m. ends_served_on c.serve_history.result c.args.port c.args.count c.in-Ok.history.entries _ _
    (c.in-Ok.ensures.all f) refl c.serve_history.ensures

pub returns-in-Err : goal.returns-in-Err
returns-in-Err g c = λ f m. ends_stopped c.in-Err.stop c.give_up.result (a.serve_on c.args.port c.args.count) _ _
    c.give_up.ensures.ending (c.in-Err.ensures.stop f) c.give_up.ensures.line refl refl refl
