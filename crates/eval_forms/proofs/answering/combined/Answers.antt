use Rattle.std.proofs.Common.{◌≡◌, Ok, rules}
use Rattle.pp_values.specs.Datum.{int}
use Rattle.pp_values.specs.Views.{view}
use Rattle.eval_forms.specs.Answering.{combined}
use Rattle.eval_forms.proofs.Elsewhere.{known_here}
use Rattle.eval_forms.proofs.answering.combined.Goals as goal

pub returns-in-Some : goal.returns-in-Some
returns-in-Some c =
    let known : combined c.args.op (view c.args.left.now) (view c.args.right.now) c.args.line c.args.here c.args.world.now
    ≡ Ok (int c.in-Some.number, c.args.world.now) =
    known_here c.args.line c.args.here c.args.world.now c.args.op _ _ (int c.in-Some.number) c.in-Some.ensures.said in
    search rules
