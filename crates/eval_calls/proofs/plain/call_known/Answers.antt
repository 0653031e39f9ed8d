use Rattle.std.proofs.Common.{rules, ◌≡◌, true, false, [], ◌∷◌, Ok, Some}
use Rattle.eval_calls.proofs.OneVariable.{of_known}
use Rattle.eval_calls.specs.Names.{is_computed}
use Rattle.eval_calls.proofs.plain.call_known.Goals as goal
use Rattle.eval_world.specs.Shapes.{is_splat, only}
use Rattle.pp_funcs.specs.Names.{needs_evaluator}
use Rattle.pp_values.specs.Views.{view, views}

pub returns-clause-said : goal.returns-clause-said
returns-clause-said g c =
    let one : Some c.in_ok-argument.argument.now ≡ only c.args.arguments.now
    = search (rules, c.in_ok-argument.ensures) in
    let plain : is_splat c.in_ok-argument.argument.now ≡ false = search rules in
    let needs_none : needs_evaluator c.args.function.now ≡ false = search rules in
    let computed : is_computed c.args.function.now ≡ true = search rules in
    let alone : views c.from_ref.result.now ≡ view c.in_ok-value.value.now ∷ [] = search rules in
    let known : (g.M.Meaning.within c.args.forms.now.left).value c.in_ok-argument.argument.now c.args.here
    c.args.world.now
    ≡ Ok (view c.in_ok-value.value.now, c.args.world.now)
    = search (rules, c.in_ok-value.ensures.said) in
    of_known (g.M.Meaning.within c.args.forms.now.left) c.args.line c.args.here c.args.world.now c.args.function.now
    c.args.arguments.now c.in_ok-argument.argument.now (view c.in_ok-value.value.now) (views c.from_ref.result.now)
    c.compute.result one plain known needs_none computed alone c.compute.ensures
