use Rattle.std.proofs.Common.{◌≡◌, rules, sym, ap, ◌∙◌, to_z, of_z, w64}
use Rattle.pp_values.specs.Datum as d
use Rattle.pp_values.specs.Views.{view}
use Rattle.eval_world.specs.Shapes.{only}
use Rattle.eval_forms.specs.Lent as lending
use Rattle.eval_forms.proofs.Lending.{known_said, number_said, text_said}
use Rattle.eval_forms.proofs.accesses.lent.Goals as goal

pub returns-in-Some-known-clause-said : goal.returns-in-Some-known-clause-said
returns-in-Some-known-clause-said g c =
    known_said c.args.forms.now.left (g.M.Meaning.within c.args.forms.now.left) c.args.here c.args.world.now
    (view c.args.value.now) c.in-Some.key.now c.args.args.now (c.in-Some.ensures ∙ ap only c.as_slice.ensures)
    c.held_in.result (view c.in-Some-known.known.now) c.in-Some-known.ensures.which c.in-Some-known.ensures.said
    c.held_in.ensures

pub returns-in-Some-number-clause-said : goal.returns-in-Some-number-clause-said
returns-in-Some-number-clause-said g c =
    let same : c.in-Some-number.number ≡ to_z w64 (of_z w64 c.in-Some-number.number) = search rules in
    number_said c.args.forms.now.left (g.M.Meaning.within c.args.forms.now.left) c.args.here c.args.world.now
    (view c.args.value.now) c.in-Some.key.now c.args.args.now (c.in-Some.ensures ∙ ap only c.as_slice.ensures)
    c.held_in-in-Some-number.result c.in-Some-number.number c.in-Some-number.ensures.which
    (c.in-Some-number.ensures.said c.args.here c.args.world.now)
    (c.held_in-in-Some-number.ensures ∙ ap (λ z. lending.held_in (view c.args.value.now) (d.int z)) (sym same))

pub returns-clause-said : goal.returns-clause-said
returns-clause-said g c =
    text_said c.args.forms.now.left (g.M.Meaning.within c.args.forms.now.left) c.args.here c.args.world.now
    (view c.args.value.now) c.in-Some.key.now c.args.args.now (c.in-Some.ensures ∙ ap only c.as_slice.ensures)
    c.held_in-2.result c.in-Some-written.text.now c.in-Some-written.ensures.which
    (c.in-Some-written.ensures.said c.args.here c.args.world.now)
    (c.held_in-2.ensures ∙ ap (λ t. lending.held_in (view c.args.value.now) (d.text t)) c.in_ok-copy.ensures)
