use Rattle.std.proofs.Common.{refl}
use Rattle.std.specs.Prelude.{option_map}
use Rattle.site_words.specs.Asked as a
use Rattle.site_commands.proofs.Applied.{ends_applied}
use Rattle.site_commands.proofs.Worked.{ends_stopped}
use Rattle.site_commands.proofs.applying.run_apply.Goals as goal

pub returns-in-Ok : goal.returns-in-Ok
returns-in-Ok g c = λ n. ends_applied c.apply.result c.args.node.now (option_map (λ d. d.now) c.args.dir)
    c.args.workers c.in-Ok.bundle _ _ c.in-Ok.ensures.all refl c.apply.ensures

pub returns-in-Err : goal.returns-in-Err
returns-in-Err g c = λ n. ends_stopped c.in-Err.stop c.give_up.result
    (a.apply c.args.node.now (option_map (λ d. d.now) c.args.dir) c.args.workers) _ _ c.give_up.ensures.ending
    c.in-Err.ensures.stop
    c.give_up.ensures.line refl refl refl
