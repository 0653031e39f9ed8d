-- What each part of a manifest means, with so many levels left.
use Rattle.std.specs.Prelude.{ℕ, zero, suc, List, [], ◌∷◌}
use Rattle.pp_tree.specs.Building.{form_of, line_of}
use Rattle.pp_tree.specs.Layers.{FormLayer}
use Rattle.pp_tree.specs.declared.collector.Test.TheOpen.{Form-F}
use Rattle.pp_tree.specs.declared.expr.Expr.{Expr}
use Rattle.pp_tree.specs.declared.expr.Form.{out-Form}
use Rattle.pp_tree.specs.declared.resource.Reference.{Reference}
use Rattle.pp_values.specs.Datum as d
use Rattle.pp_values.specs.Datum.{Datum}
use Rattle.pp_values.specs.declared.fault.What.TheVariants as what
use Rattle.class_eval.specs.Postfixes.{postfixed_rule}
use Rattle.class_eval.specs.Statements.{block_rule}
use Rattle.class_eval.specs.TypeNames.{type_named_rule}
use Rattle.eval_calls.specs.Calls.{call_rule, words_rule}
use Rattle.eval_classes.specs.Bodies.{class_rule, instance_rule}
use Rattle.eval_forms.specs.Conditions.{if_rule, unless_rule, case_rule}
use Rattle.eval_forms.specs.Literals.{list_rule, hash_rule, interpolated_rule}
use Rattle.eval_forms.specs.Operators.{prefix_rule, binary_rule, assigned_rule}
use Rattle.eval_overrides.specs.OverrideStatements.{target_rule}
use Rattle.eval_world.specs.Inner.{Inner}
use Rattle.eval_world.specs.Outcomes.{Step, pure}
use Rattle.eval_world.specs.Worlds.{read, fault}
use Rattle.eval_world.specs.declared.goal.Goal.{Goal}
use Rattle.eval_world.specs.declared.goal.Goal.TheVariants as goal
use Rattle.eval_world.specs.declared.here.Here.{Here}

-- one line for each form of expression
abbrev pub value_by : Inner → FormLayer → ℕ → Here → Step Datum
value_by inner Form-F.Undef line here = pure d.undef
value_by inner (Form-F.Flag b) line here = pure (d.flag b)
value_by inner Form-F.Default line here = pure d.default
value_by inner (Form-F.Number z) line here = pure (d.int z)
value_by inner (Form-F.Text t) line here = pure (d.text t)
value_by inner (Form-F.Name t) line here = pure (d.text t)
value_by inner (Form-F.Interpolated ps) line here = interpolated_rule inner ps here
value_by inner (Form-F.Variable x) line here = read here x line
value_by inner (Form-F.Type t) line here = type_named_rule t line here
value_by inner (Form-F.List es) line here = list_rule inner es here
value_by inner (Form-F.Hash ps) line here = hash_rule inner ps line here
value_by inner (Form-F.Parentheses e) line here = inner.value e here
value_by inner (Form-F.Call c) line here = call_rule inner c line here
value_by inner (Form-F.If c) line here = if_rule inner c line here
value_by inner (Form-F.Unless c) line here = unless_rule inner c line here
value_by inner (Form-F.Case c) line here = case_rule inner c line here
value_by inner (Form-F.Postfix e ps) line here = postfixed_rule inner e ps line here
value_by inner (Form-F.Prefix o e) line here = prefix_rule inner o e line here
value_by inner (Form-F.Binary e os) line here = binary_rule inner e os line here
value_by inner (Form-F.Assign x e) line here = assigned_rule inner x e line here

unfoldable pub value_rule : Inner → Expr → Here → Step Datum
value_rule inner e here = value_by inner (out-Form (form_of e)) (line_of e) here

-- ---- depth

-- the line of the first of these expressions, or else this one
abbrev pub line_of_first : List Expr → ℕ → ℕ
line_of_first [] line = line
line_of_first (e ∷ es) line = line_of e

-- what stands too deep in a target is its first argument
abbrev pub line_of_target : Reference Expr → ℕ
line_of_target r = line_of_first r.args r.at

-- the line at which a part is refused that stands too deep
abbrev pub line_of_goal : Goal → ℕ
line_of_goal (goal.Value e) = line_of e.now
line_of_goal (goal.Block b line) = line
line_of_goal (goal.Words x) = x.now.at
line_of_goal (goal.Target r) = line_of_target r.now
line_of_goal (goal.Class n line) = line
line_of_goal (goal.Instance n line) = line

abbrev pub too_deep : {A : Type 0} → Here → ℕ → Step A
too_deep here line = fault here line what.DepthLimit

-- no level is left
abbrev pub deep : Inner
deep = record {
  value = λ e here. too_deep here (line_of e);
  block = λ b line here. too_deep here line;
  words = λ x here. too_deep here x.at;
  target = λ r here. too_deep here (line_of_target r);
  class = λ n line here. too_deep here line;
  instance = λ n line here. too_deep here line;
}

-- what each part means whose own parts mean this
abbrev pub one_more : Inner → Inner
one_more inner = record {
  value = value_rule inner;
  block = λ b line here. block_rule inner b here;
  words = words_rule inner;
  target = target_rule inner;
  class = class_rule inner;
  instance = instance_rule inner;
}

-- what each part means where so many levels are left
unfoldable pub within : ℕ → Inner
within zero = deep
within (suc n) = one_more (within n)
