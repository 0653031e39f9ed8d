-- What stands in a manifest, within any number of levels, and the calls of an evaluator.
use Rattle.std.proofs.Common.{ℕ, zero, suc, Bool, true, false, List, [], ◌∷◌, Option, None, Some}
use Rattle.pp_tree.specs.Building.{form_of, line_of}
use Rattle.pp_tree.specs.Layers.{FormLayer, OperandLayer, StatementLayer}
use Rattle.pp_tree.specs.Tables.{Entries}
use Rattle.pp_tree.specs.declared.collector.Test.TheOpen.{Form-F, Operand-F, Postfix-F, Statement-F}
use Rattle.pp_tree.specs.declared.definition.Class.{Class}
use Rattle.pp_tree.specs.declared.definition.Node.{Node}
use Rattle.pp_tree.specs.declared.expr.Expr.{Expr}
use Rattle.pp_tree.specs.declared.expr.Form.{out-Form}
use Rattle.pp_tree.specs.declared.expr.Postfix.{Postfix, out-Postfix}
use Rattle.pp_tree.specs.declared.file.File.{File}
use Rattle.pp_tree.specs.declared.statement.Chain.{Chain}
use Rattle.pp_tree.specs.declared.statement.Link.{Link}
use Rattle.pp_tree.specs.declared.statement.Operand.{Operand, out-Operand}
use Rattle.pp_tree.specs.declared.statement.Statement.{Statement, out-Statement}
use Rattle.pp_tree.specs.declared.template.Template.{Template}
use Rattle.pp_types.specs.Names.{bare_name, data_type_named}
use Rattle.pp_types.specs.declared.data_type.DataType.{DataType}
use Rattle.pp_values.specs.Datum as datum
use Rattle.pp_values.specs.Datum.{Datum}
use Rattle.pp_values.specs.Settings.{Setting}
use Rattle.pp_values.specs.TextOf.{text_of}
use Rattle.pp_values.specs.declared.place.Place.{Place}
use Rattle.scope_core.specs.declared.scope_kind.ScopeKind.TheVariants as kind
use Rattle.eval_world.specs.Inner.{Inner}
use Rattle.eval_world.specs.Outcomes.{Step}
use Rattle.eval_world.specs.Worlds.{top, with_rendered}
use Rattle.eval_world.specs.declared.here.Here.{Here}
use Rattle.class_eval.specs.Evaluating.{at_depth, value_at, block_at, node_of, has_nodes, node_owner, node_rule, chosen}
use Rattle.class_eval.specs.Evaluating.{nodes_by, nodes_rule, main_rule, class_number, class_given, class_within}
use Rattle.class_eval.specs.Evaluating.{class_at, instance_at, render_at}
use Rattle.class_eval.specs.Meaning.{value_by, value_rule, deep, one_more, within}
use Rattle.class_eval.specs.Postfixes.{PostfixLayer, postfix_by, postfix_rule, postfixes_from, postfixed_rule}
use Rattle.class_eval.specs.Statements.{valued, unvalued, operand_by, operand_rule, chained_by, chain_rule}
use Rattle.class_eval.specs.Statements.{statement_by, emitted_value, statement_rule, or_before, statements_from}
use Rattle.class_eval.specs.Statements.{emitted_rule}
use Rattle.class_eval.specs.TypeNames.{there_by, named_by, type_named_rule}
use Rattle.world_laws.specs.Growing.{Grows, GrowsInner}
use Rattle.world_laws.proofs.OfCalls.{call_grows, method_grows, words_grow}
use Rattle.world_laws.proofs.OfChains.{links_grow}
use Rattle.world_laws.proofs.OfClasses.{class_declared_grows, once_grows, class_grows, instance_grows, run_grows}
use Rattle.world_laws.proofs.OfClasses.{enter_reaches}
use Rattle.world_laws.proofs.OfForms.{type_grows, list_grows, hash_grows, interpolated_grows, prefix_grows}
use Rattle.world_laws.proofs.OfForms.{binary_grows, assigned_grows, if_grows, unless_grows, case_grows, selected_grows}
use Rattle.world_laws.proofs.OfForms.{accessed_grows}
use Rattle.world_laws.proofs.OfCollectors.{collector_grows}
use Rattle.world_laws.proofs.OfOverrides.{override_grows, defaults_grow, target_grows}
use Rattle.world_laws.proofs.OfResources.{resource_grows}
use Rattle.world_laws.proofs.OfTemplates.{back}
use Rattle.world_laws.proofs.OfWorld.{emit_grows, read_grows}
use Rattle.world_laws.proofs.Steps.{and_then, pure_grows, answer_grows, fault_grows}
use Rattle.world_laws.proofs.Worlds.{same_world}

-- ---- names of types

there_grows : (t : Option DataType) (name : List ℕ) (line : ℕ) (here : Here) → Grows (there_by t name line here)
there_grows (Some t) name line here = pure_grows
there_grows None name line here = answer_grows _

named_grows : (typed : Bool) (name : List ℕ) (line : ℕ) (here : Here) → Grows (named_by typed name line here)
named_grows false name line here = type_grows name line here
named_grows true name line here =
    and_then (there_grows (data_type_named (bare_name name)) name line here) (λ u. type_grows name line here)

type_named_grows : (name : List ℕ) (line : ℕ) (here : Here) → Grows (type_named_rule name line here)
unfolding type_named_rule
type_named_grows name line here = named_grows here.typed name line here

valued_grows : (p : Step Datum) → Grows p → Grows (valued p)
valued_grows p f = and_then f (λ v. pure_grows)

unvalued_grows : (p : Step (Unit {0})) → Grows p → Grows (unvalued p)
unvalued_grows p f = and_then f (λ u. pure_grows)

module _ (inner : Inner) (g : GrowsInner inner) where
  -- ---- a value and what follows it

  postfix_by_grows : (v : Datum) (p : PostfixLayer) (line : ℕ) (here : Here) → Grows (postfix_by inner v p line here)
  postfix_by_grows v (Postfix-F.Access args) line here = accessed_grows inner g v args line here
  postfix_by_grows v (Postfix-F.Method c) line here = method_grows inner g v c line here
  postfix_by_grows v (Postfix-F.Select options) line here = selected_grows inner g v options line here

  postfix_grows : (v : Datum) (p : Postfix) (line : ℕ) (here : Here) → Grows (postfix_rule inner v p line here)
  unfolding postfix_rule
  postfix_grows v p line here = postfix_by_grows v (out-Postfix p) line here

  postfixes_grow : (v : Datum) (ps : List Postfix) (line : ℕ) (here : Here) →
      Grows (postfixes_from inner v ps line here)
  unfolding postfixes_from
  postfixes_grow v [] line here = pure_grows
  postfixes_grow v (p ∷ ps) line here =
      and_then (postfix_grows v p line here) (λ more. postfixes_grow more ps line here)

  postfixed_grows : (e : Expr) (ps : List Postfix) (line : ℕ) (here : Here) →
      Grows (postfixed_rule inner e ps line here)
  unfolding postfixed_rule
  postfixed_grows e ps line here = and_then (g.value e here) (λ v. postfixes_grow v ps line here)

  -- ---- statements

  operand_by_grows : (o : OperandLayer) (line : ℕ) (here : Here) → Grows (operand_by inner o line here)
  operand_by_grows (Operand-F.Expr e) line here = valued_grows (inner.value e here) (g.value e here)
  operand_by_grows (Operand-F.Resource r) line here = unvalued_grows _ (resource_grows inner g r here)
  operand_by_grows (Operand-F.Collector c) line here = unvalued_grows _ (collector_grows inner g c here)
  operand_by_grows (Operand-F.Override o) line here = unvalued_grows _ (override_grows inner g o here)
  operand_by_grows (Operand-F.Defaults d) line here = unvalued_grows _ (defaults_grow inner g d here)

  operand_grows : (o : Operand) (line : ℕ) (here : Here) → Grows (operand_rule inner o line here)
  unfolding operand_rule
  operand_grows o line here = operand_by_grows (out-Operand o) line here

  chained_grows : (first : Operand) (ls : List (Link Operand)) (line : ℕ) (here : Here) →
      Grows (chained_by inner first ls line here)
  chained_grows first [] line here = operand_grows first line here
  chained_grows first (l ∷ ls) line here = unvalued_grows _ (links_grow inner g first (l ∷ ls) line here)

  chain_grows : (c : Chain Operand) (here : Here) → Grows (chain_rule inner c here)
  unfolding chain_rule
  chain_grows c here = chained_grows c.first c.links c.at here

  emitted_grows : (e : Expr) (here : Here) → Grows (emitted_value inner e here)
  emitted_grows e here = and_then (g.value e here) (λ v. emit_grows (text_of v))

  statement_by_grows : (s : StatementLayer) (here : Here) → Grows (statement_by inner s here)
  statement_by_grows (Statement-F.Chain c) here = chain_grows c here
  statement_by_grows (Statement-F.Words x) here = valued_grows (inner.words x here) (g.words x here)
  statement_by_grows (Statement-F.Emit t) here = unvalued_grows _ (emit_grows t)
  statement_by_grows (Statement-F.EmitValue e) here = unvalued_grows _ (emitted_grows e here)

  statement_grows : (s : Statement) (here : Here) → Grows (statement_rule inner s here)
  unfolding statement_rule
  statement_grows s here = statement_by_grows (out-Statement s) here

  pub statements_grow : (last : Datum) (ss : List Statement) (here : Here) → Grows (statements_from inner last ss here)
  unfolding statements_from
  statements_grow last [] here = pure_grows
  statements_grow last (s ∷ ss) here =
      and_then (statement_grows s here) (λ given. statements_grow (or_before given last) ss here)

  -- the text that statements emit
  pub text_emitted_grows : (b : List Statement) (own : Here) → Grows (emitted_rule inner b own)
  unfolding emitted_rule
  text_emitted_grows b own = record {
    reaches = λ w. back w (statements_from inner datum.undef b own (with_rendered [] w))
        ((statements_grow datum.undef b own).reaches (with_rendered [] w));
  }

  -- ---- expressions

  value_by_grows : (f : FormLayer) (line : ℕ) (here : Here) → Grows (value_by inner f line here)
  value_by_grows Form-F.Undef line here = pure_grows
  value_by_grows (Form-F.Flag b) line here = pure_grows
  value_by_grows Form-F.Default line here = pure_grows
  value_by_grows (Form-F.Number z) line here = pure_grows
  value_by_grows (Form-F.Text t) line here = pure_grows
  value_by_grows (Form-F.Name t) line here = pure_grows
  value_by_grows (Form-F.Interpolated ps) line here = interpolated_grows inner g ps here
  value_by_grows (Form-F.Variable x) line here = read_grows here x line
  value_by_grows (Form-F.Type t) line here = type_named_grows t line here
  value_by_grows (Form-F.List es) line here = list_grows inner g es here
  value_by_grows (Form-F.Hash ps) line here = hash_grows inner g ps line here
  value_by_grows (Form-F.Parentheses e) line here = g.value e here
  value_by_grows (Form-F.Call c) line here = call_grows inner g c line here
  value_by_grows (Form-F.If c) line here = if_grows inner g c line here
  value_by_grows (Form-F.Unless c) line here = unless_grows inner g c line here
  value_by_grows (Form-F.Case c) line here = case_grows inner g c line here
  value_by_grows (Form-F.Postfix e ps) line here = postfixed_grows e ps line here
  value_by_grows (Form-F.Prefix o e) line here = prefix_grows inner g o e line here
  value_by_grows (Form-F.Binary e os) line here = binary_grows inner g e os line here
  value_by_grows (Form-F.Assign x e) line here = assigned_grows inner g x e line here

  value_grows : (e : Expr) (here : Here) → Grows (value_rule inner e here)
  unfolding value_rule
  value_grows e here = value_by_grows (out-Form (form_of e)) (line_of e) here

  -- one level more
  one_more_grows : GrowsInner (one_more inner)
  one_more_grows = record {
    value = value_grows;
    block = λ b line here. statements_grow datum.undef b here;
    words = words_grow inner g;
    target = target_grows inner g;
    class = class_grows inner g;
    instance = instance_grows inner g;
  }

  -- ---- a class that is declared from without

  given_grows : (c : Class) (given : Option (List Setting)) (at : Place) (here : Here) →
      Grows (class_given inner c given at here)
  given_grows c None at here = once_grows inner g c at here.owner
  given_grows c (Some given) at here =
      and_then (answer_grows _) (λ u. class_declared_grows inner g c given at here.owner)

  number_grows : (c : Class) → Grows (class_number c)
  number_grows c = record { reaches = same_world }

  class_within_grows : (x : List ℕ) (given : Option (List Setting)) (at : Place) (here : Here) →
      Grows (class_within inner x given at here)
  unfolding class_within
  class_within_grows x given at here =
      and_then (answer_grows _) (λ c. and_then (given_grows c given at here) (λ u. number_grows c))

-- ---- any number of levels

deep_grows : GrowsInner deep
deep_grows = record {
  value = λ e here. fault_grows _;
  block = λ b line here. fault_grows _;
  words = λ x here. fault_grows _;
  target = λ r here. fault_grows _;
  class = λ n line here. fault_grows _;
  instance = λ n line here. fault_grows _;
}

pub within_grows : (levels : ℕ) → GrowsInner (within levels)
unfolding within
within_grows zero = deep_grows
within_grows (suc n) = one_more_grows (within n) (within_grows n)

at_depth_grows : (depth : ℕ) → GrowsInner (at_depth depth)
at_depth_grows depth = within_grows _

-- ---- the calls of an evaluator

pub value_at_grows : (e : Expr) (here : Here) (depth : ℕ) → Grows (value_at e here depth)
value_at_grows e here depth = (at_depth_grows depth).value e here

pub block_at_grows : (b : List Statement) (line : ℕ) (here : Here) (depth : ℕ) → Grows (block_at b line here depth)
block_at_grows b line here depth = (at_depth_grows depth).block b line here

node_grows : (n : Node) → Grows (node_rule n)
unfolding node_rule
node_grows n = and_then (record { reaches = λ w. enter_reaches kind.Node 0 0 node_owner w (λ placed. placed.top) })
    (λ own. and_then (block_at_grows n.block n.at own 1) (λ d. pure_grows))

chosen_grows : (n : Option Node) (x : List ℕ) → Grows (chosen n x)
chosen_grows (Some n) x = node_grows n
chosen_grows None x = fault_grows _

nodes_by_grows : (b : Bool) (es : Entries) (x : List ℕ) → Grows (nodes_by b es x)
nodes_by_grows false es x = pure_grows
nodes_by_grows true es x = chosen_grows (node_of es x) x

nodes_grow : (es : Entries) (x : List ℕ) → Grows (nodes_rule es x)
unfolding nodes_rule
nodes_grow es x = nodes_by_grows (has_nodes es) es x

pub main_grows : (main : File) (x : List ℕ) → Grows (main_rule main x)
unfolding main_rule
main_grows main x = and_then (statements_grow (at_depth 1) (at_depth_grows 1) datum.undef main.statements top)
    (λ v. nodes_grow main.definitions x)

pub class_at_grows : (x : List ℕ) (given : Option (List Setting)) (at : Place) (here : Here) (depth : ℕ) →
    Grows (class_at x given at here depth)
class_at_grows x given at here depth = class_within_grows (at_depth depth) (at_depth_grows depth) x given at here

pub instance_at_grows : (number depth : ℕ) → Grows (instance_at number depth)
instance_at_grows number depth = run_grows (at_depth depth) (at_depth_grows depth) number

pub render_at_grows : (t : Template) (here : Here) (depth : ℕ) → Grows (render_at t here depth)
render_at_grows t here depth = text_emitted_grows (at_depth depth) (at_depth_grows depth) t.block here
