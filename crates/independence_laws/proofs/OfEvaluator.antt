-- What stands in a manifest, within any number of levels, and the calls of an evaluator.
use Rattle.std.proofs.Common.{ℕ, zero, suc, Bool, true, false, List, [], ◌∷◌, Option, None, Some}
use Rattle.pp_tree.specs.Building.{form_of, line_of}
use Rattle.pp_tree.specs.Layers.{FormLayer, OperandLayer, StatementLayer}
use Rattle.pp_tree.specs.Tables.{Entries}
use Rattle.pp_tree.specs.declared.collector.Test.TheOpen.{Form-F, Operand-F, Postfix-F, Statement-F}
use Rattle.pp_tree.specs.declared.definition.Class.{Class}
use Rattle.pp_tree.specs.declared.definition.Node.{Node}
use Rattle.pp_tree.specs.declared.expr.Expr.{Expr}
use Rattle.pp_tree.specs.declared.expr.Form.{out-Form}
use Rattle.pp_tree.specs.declared.expr.Postfix.{Postfix, out-Postfix}
use Rattle.pp_tree.specs.declared.file.File.{File}
use Rattle.pp_tree.specs.declared.statement.Chain.{Chain}
use Rattle.pp_tree.specs.declared.statement.Link.{Link}
use Rattle.pp_tree.specs.declared.statement.Operand.{Operand, out-Operand}
use Rattle.pp_tree.specs.declared.statement.Statement.{Statement, out-Statement}
use Rattle.pp_tree.specs.declared.template.Template.{Template}
use Rattle.pp_types.specs.Names.{bare_name, data_type_named}
use Rattle.pp_types.specs.declared.data_type.DataType.{DataType}
use Rattle.pp_values.specs.Datum as datum
use Rattle.pp_values.specs.Datum.{Datum}
use Rattle.pp_values.specs.Settings.{Setting}
use Rattle.pp_values.specs.TextOf.{text_of}
use Rattle.pp_values.specs.declared.place.Place.{Place}
use Rattle.scope_core.specs.declared.scope_kind.ScopeKind.TheVariants as kind
use Rattle.eval_world.specs.Inner.{Inner}
use Rattle.eval_world.specs.Outcomes.{Step}
use Rattle.eval_world.specs.Worlds.{top}
use Rattle.eval_world.specs.declared.here.Here.{Here}
use Rattle.class_eval.specs.Meaning.{value_by, value_rule, deep, one_more, within}
use Rattle.class_eval.specs.Postfixes.{PostfixLayer, postfix_by, postfix_rule, postfixes_from, postfixed_rule}
use Rattle.class_eval.specs.Statements.{valued, unvalued, operand_by, operand_rule, chained_by, chain_rule}
use Rattle.class_eval.specs.Statements.{statement_by, emitted_value, statement_rule, or_before, statements_from}
use Rattle.class_eval.specs.TypeNames.{there_by, named_by, type_named_rule}
use Rattle.std.proofs.Common.{subst}
use Rattle.class_eval.specs.Meaning.{line_of_target}
use Rattle.class_eval.specs.TypeNames.{kind_there}
use Rattle.eval_collectors.specs.Collectors.{collector_rule}
use Rattle.eval_overrides.specs.DefaultStatements.{defaults_rule}
use Rattle.eval_overrides.specs.OverrideStatements.{override_rule}
use Rattle.eval_resources.specs.Resources.{resource_rule}
use Rattle.class_eval.specs.Chains.{links_rule}
use Rattle.eval_world.specs.Worlds.{emit}
use Rattle.independence_laws.specs.Steps.{Comes, Equal, Same, SameInner, Two}
use Rattle.independence_laws.proofs.OfCalls.{call_same, method_same, words_same}
use Rattle.independence_laws.proofs.OfChains.{links_same}
use Rattle.independence_laws.proofs.OfClasses.{class_same, instance_same}
use Rattle.independence_laws.proofs.OfCollectors.{collector_same}
use Rattle.independence_laws.proofs.OfForms.{accessed_same, assigned_same, binary_same, case_same, hash_same, if_same}
use Rattle.independence_laws.proofs.OfForms.{interpolated_same, list_same, prefix_same, selected_same, type_same}
use Rattle.independence_laws.proofs.OfForms.{unless_same}
use Rattle.independence_laws.proofs.OfOverrides.{defaults_same, override_same, target_same}
use Rattle.independence_laws.proofs.OfResources.{resource_same}
use Rattle.independence_laws.proofs.OfWorld.{by_environment_at, emit_same, fault_here, read_same}
use Rattle.independence_laws.proofs.Going.{and_then, pure_same}

-- ---- names of types

module _ (two : Two) where
  there_same : (t : Option DataType) (name : List ℕ) (line : ℕ) → Same two (λ here. there_by t name line here)
  there_same (Some t) name line = pure_same two
  there_same None name line = by_environment_at two (λ m at. kind_there m name at) line

  named_same : (typed : Bool) (name : List ℕ) (line : ℕ) → Same two (λ here. named_by typed name line here)
  named_same false name line = type_same two name line
  named_same true name line =
      and_then two (there_same (data_type_named (bare_name name)) name line) (λ u. type_same two name line)

  type_named_same : (name : List ℕ) (line : ℕ) → Same two (λ here. type_named_rule name line here)
  unfolding type_named_rule
  type_named_same name line = record {
    comes = λ first second v w alike f g.
        subst (λ b. Comes Equal first second v w (named_by two.left.typed name line two.left v)
        (named_by b name line two.right w)) two.same.typed
        ((named_same two.left.typed name line).comes first second v w alike f g);
  }

  valued_same : (p : Here → Step Datum) → Same two p → Same two (λ here. valued (p here))
  valued_same p f = and_then two f (λ v. pure_same two)

  unvalued_same : (p : Here → Step (Unit {0})) → Same two p → Same two (λ here. unvalued (p here))
  unvalued_same p f = and_then two f (λ u. pure_same two)

module _ (inner : Inner) (same : SameInner inner) (two : Two) where
  -- ---- a value and what follows it

  postfix_by_same : (v : Datum) (p : PostfixLayer) (line : ℕ) → Same two (λ here. postfix_by inner v p line here)
  postfix_by_same v (Postfix-F.Access args) line = accessed_same inner same two v args line
  postfix_by_same v (Postfix-F.Method c) line = method_same inner same two v c line
  postfix_by_same v (Postfix-F.Select options) line = selected_same inner same two v options line

  postfix_same : (v : Datum) (p : Postfix) (line : ℕ) → Same two (λ here. postfix_rule inner v p line here)
  unfolding postfix_rule
  postfix_same v p line = postfix_by_same v (out-Postfix p) line

  postfixes_same : (v : Datum) (ps : List Postfix) (line : ℕ) →
      Same two (λ here. postfixes_from inner v ps line here)
  unfolding postfixes_from
  postfixes_same v [] line = pure_same two
  postfixes_same v (p ∷ ps) line =
      and_then two (postfix_same v p line) (λ more. postfixes_same more ps line)

  postfixed_same : (e : Expr) (ps : List Postfix) (line : ℕ) →
      Same two (λ here. postfixed_rule inner e ps line here)
  unfolding postfixed_rule
  postfixed_same e ps line = and_then two (same.value e two) (λ v. postfixes_same v ps line)

  -- ---- statements

  operand_by_same : (o : OperandLayer) (line : ℕ) → Same two (λ here. operand_by inner o line here)
  operand_by_same (Operand-F.Expr e) line = valued_same two (λ here. inner.value e here) (same.value e two)
  operand_by_same (Operand-F.Resource r) line = unvalued_same two (λ here. resource_rule inner r here) (resource_same inner same two r)
  operand_by_same (Operand-F.Collector c) line = unvalued_same two (λ here. collector_rule inner c here) (collector_same inner same two c)
  operand_by_same (Operand-F.Override o) line = unvalued_same two (λ here. override_rule inner o here) (override_same inner same two o)
  operand_by_same (Operand-F.Defaults d) line = unvalued_same two (λ here. defaults_rule inner d here) (defaults_same inner same two d)

  operand_same : (o : Operand) (line : ℕ) → Same two (λ here. operand_rule inner o line here)
  unfolding operand_rule
  operand_same o line = operand_by_same (out-Operand o) line

  chained_same : (first : Operand) (ls : List (Link Operand)) (line : ℕ) →
      Same two (λ here. chained_by inner first ls line here)
  chained_same first [] line = operand_same first line
  chained_same first (l ∷ ls) line = unvalued_same two (λ here. links_rule inner first (l ∷ ls) line here) (links_same inner same two first (l ∷ ls) line)

  chain_same : (c : Chain Operand) → Same two (λ here. chain_rule inner c here)
  unfolding chain_rule
  chain_same c = chained_same c.first c.links c.at

  emitted_same : (e : Expr) → Same two (λ here. emitted_value inner e here)
  emitted_same e = and_then two (same.value e two) (λ v. emit_same two (text_of v))

  statement_by_same : (s : StatementLayer) → Same two (λ here. statement_by inner s here)
  statement_by_same (Statement-F.Chain c) = chain_same c
  statement_by_same (Statement-F.Words x) = valued_same two (λ here. inner.words x here) (same.words x two)
  statement_by_same (Statement-F.Emit t) = unvalued_same two (λ here. emit t) (emit_same two t)
  statement_by_same (Statement-F.EmitValue e) = unvalued_same two (λ here. emitted_value inner e here) (emitted_same e)

  statement_same : (s : Statement) → Same two (λ here. statement_rule inner s here)
  unfolding statement_rule
  statement_same s = statement_by_same (out-Statement s)

  pub statements_same : (last : Datum) (ss : List Statement) → Same two (λ here. statements_from inner last ss here)
  unfolding statements_from
  statements_same last [] = pure_same two
  statements_same last (s ∷ ss) =
      and_then two (statement_same s) (λ given. statements_same (or_before given last) ss)

  -- ---- expressions

  value_by_same : (f : FormLayer) (line : ℕ) → Same two (λ here. value_by inner f line here)
  value_by_same Form-F.Undef line = pure_same two
  value_by_same (Form-F.Flag b) line = pure_same two
  value_by_same Form-F.Default line = pure_same two
  value_by_same (Form-F.Number z) line = pure_same two
  value_by_same (Form-F.Text t) line = pure_same two
  value_by_same (Form-F.Name t) line = pure_same two
  value_by_same (Form-F.Interpolated ps) line = interpolated_same inner same two ps
  value_by_same (Form-F.Variable x) line = read_same two x line
  value_by_same (Form-F.Type t) line = type_named_same two t line
  value_by_same (Form-F.List es) line = list_same inner same two es
  value_by_same (Form-F.Hash ps) line = hash_same inner same two ps line
  value_by_same (Form-F.Parentheses e) line = same.value e two
  value_by_same (Form-F.Call c) line = call_same inner same two c line
  value_by_same (Form-F.If c) line = if_same inner same two c line
  value_by_same (Form-F.Unless c) line = unless_same inner same two c line
  value_by_same (Form-F.Case c) line = case_same inner same two c line
  value_by_same (Form-F.Postfix e ps) line = postfixed_same e ps line
  value_by_same (Form-F.Prefix o e) line = prefix_same inner same two o e line
  value_by_same (Form-F.Binary e os) line = binary_same inner same two e os line
  value_by_same (Form-F.Assign x e) line = assigned_same inner same two x e line

  value_same : (e : Expr) → Same two (λ here. value_rule inner e here)
  unfolding value_rule
  value_same e = value_by_same (out-Form (form_of e)) (line_of e)

module _ (inner : Inner) (same : SameInner inner) where
  -- one level more
  one_more_same : SameInner (one_more inner)
  one_more_same = record {
    value = λ e two. value_same inner same two e;
    block = λ b line two. statements_same inner same two datum.undef b;
    words = λ x two. words_same inner same two x;
    target = λ r two. target_same inner same two r;
    class = λ n line two. class_same inner same two n line;
    instance = λ n line two. instance_same inner same two n line;
  }

-- ---- any number of levels

deep_same : SameInner deep
deep_same = record {
  value = λ e two. fault_here two (line_of e) _;
  block = λ b line two. fault_here two line _;
  words = λ x two. fault_here two x.at _;
  target = λ r two. fault_here two (line_of_target r) _;
  class = λ n line two. fault_here two line _;
  instance = λ n line two. fault_here two line _;
}

pub within_same : (levels : ℕ) → SameInner (within levels)
unfolding within
within_same zero = deep_same
within_same (suc n) = one_more_same (within n) (within_same n)
