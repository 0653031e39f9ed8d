use Rattle.std.proofs.Common.{refl}
use Rattle.site_words.specs.Asked as a
use Rattle.site_commands.proofs.Served.{ends_served}
use Rattle.site_commands.proofs.Worked.{ends_stopped}
use Rattle.site_commands.proofs.serving.run_serve.Goals as goal

pub returns-in-Ok : goal.returns-in-Ok
returns-in-Ok g c = λ s m. ends_served c.serve_bundle.result c.args.port c.args.count c.args.dir.now c.in-Ok.bundle _ _
    (c.in-Ok.ensures.all s) refl c.serve_bundle.ensures

pub returns-in-Err : goal.returns-in-Err
returns-in-Err g c = λ s m. ends_stopped c.in-Err.stop c.give_up.result (a.serve c.args.port c.args.count c.args.dir.now) _ _
    c.give_up.ensures.ending (c.in-Err.ensures.stop s) c.give_up.ensures.line refl refl refl
