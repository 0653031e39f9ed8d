use Rattle.std.proofs.Common.{rules, ◌≡◌, Ok, Some}
use Rattle.pp_values.specs.Datum.{int}
use Rattle.pp_values.specs.Views.{view}
use Rattle.eval_forms.proofs.Operations.{over_known}
use Rattle.eval_forms.proofs.chains.over_known.Goals as goal
use Rattle.eval_forms.specs.Answering.{combined}
use Rattle.eval_forms.specs.Operators.{kind_of}
use Rattle.eval_forms.specs.declared.operator_kind.OperatorKind.TheVariants as kind
use Rattle.eval_world.specs.Outcomes.{Gives, same}
use Rattle.eval_world.specs.Shapes.{only}

pub returns-in-Some-clause-said : goal.returns-in-Some-clause-said
returns-in-Some-clause-said g c =
    let one : Some c.in_ok-operation.operation.now ≡ only c.args.operations.now
    = search (rules, c.in_ok-operation.ensures) in
    let combines : kind_of c.in_ok-operation.operation.now.operator ≡ kind.Combine c.in-Combine.op = search rules in
    let left : (g.M.Meaning.within c.args.forms.now.left).value c.args.first.now c.args.here c.args.world.now
    ≡ Ok (view c.in_ok-left.left.now, c.args.world.now)
    = search (rules, c.in_ok-left.ensures.said) in
    let gives : Gives same (combined c.in-Combine.op (view c.in_ok-left.left.now) (int c.in-Some.number) c.args.line
    c.args.here c.args.world.now) c.combined.result c.args.world.now
    = search (rules, c.combined.ensures) in
    over_known (g.M.Meaning.within c.args.forms.now.left) c.args.line c.args.here c.args.world.now c.args.first.now
    c.args.operations.now c.in_ok-operation.operation.now c.in-Combine.op (view c.in_ok-left.left.now) (int c.in-Some.number)
    c.combined.result one combines left (c.in-Some.ensures.said c.args.here c.args.world.now) gives

pub returns-clause-said : goal.returns-clause-said
returns-clause-said g c =
    let one : Some c.in_ok-operation.operation.now ≡ only c.args.operations.now
    = search (rules, c.in_ok-operation.ensures) in
    let combines : kind_of c.in_ok-operation.operation.now.operator ≡ kind.Combine c.in-Combine.op = search rules in
    let left : (g.M.Meaning.within c.args.forms.now.left).value c.args.first.now c.args.here c.args.world.now
    ≡ Ok (view c.in_ok-left-2.left.now, c.args.world.now)
    = search (rules, c.in_ok-left-2.ensures.said) in
    let right : (g.M.Meaning.within c.args.forms.now.left).value c.in_ok-operation.operation.now.right c.args.here c.args.world.now
    ≡ Ok (view c.in_ok-right.right.now, c.args.world.now)
    = search (rules, c.in_ok-right.ensures.said) in
    over_known (g.M.Meaning.within c.args.forms.now.left) c.args.line c.args.here c.args.world.now c.args.first.now
    c.args.operations.now c.in_ok-operation.operation.now c.in-Combine.op (view c.in_ok-left-2.left.now)
    (view c.in_ok-right.right.now) c.combined-2.result one combines left right c.combined-2.ensures
