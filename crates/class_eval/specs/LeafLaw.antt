-- What has no parts means what it says, wherever a level is left.
use Rattle.std.specs.Prelude.{ℕ, suc, ◌≡◌, Some}
use Rattle.pp_tree.specs.Building.{form_of, line_of}
use Rattle.pp_tree.specs.Layers.{FormLayer}
use Rattle.pp_tree.specs.declared.collector.Test.TheOpen.{Form-F}
use Rattle.pp_tree.specs.declared.expr.Form.{out-Form}
use Rattle.pp_values.specs.Datum.{Datum}
use Rattle.class_eval.specs.Meaning.{value_by, value_rule, within}
use Rattle.eval_world.specs.Inner.{Inner}
use Rattle.eval_world.specs.Leaves.{Leaves, leaf_by}
use Rattle.eval_world.specs.Outcomes.{Step}
use Rattle.eval_world.specs.declared.here.Here.{Here}

by_form : (inner : Inner) (form : FormLayer) (line : ℕ) (here : Here) (said : Step Datum)
    → leaf_by form line here ≡ Some said → value_by inner form line here ≡ said
by_form inner (Form-F.Number z) line here said is = cc
by_form inner (Form-F.Text t) line here said is = cc
by_form inner (Form-F.Name t) line here said is = cc
by_form inner (Form-F.Variable x) line here said is = cc
by_form inner form line here said is = absurd cc

pub leaves : (left : ℕ) → Leaves (within (suc left))
unfolding within value_rule
leaves left e here said is = by_form (within left) (out-Form (form_of e)) (line_of e) here said is
