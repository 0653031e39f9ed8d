-- The forms of expressions that are no calls.
use Rattle.std.proofs.Common.{ℕ, Bool, true, false, List, [], ◌∷◌, Option, None, Some}
use Rattle.std.specs.Prelude.{not}
use Rattle.expr_eval.specs.Truth.{is_true}
use Rattle.expr_eval.specs.Combining as steps
use Rattle.expr_eval.specs.Testing.{is_of}
use Rattle.pp_ops.specs.declared.op.Op.{Op}
use Rattle.pp_tree.specs.declared.conditions.Case.{Case, out-Case}
use Rattle.pp_tree.specs.declared.conditions.CaseOption.{CaseOption}
use Rattle.pp_tree.specs.declared.conditions.Elsif.{Elsif}
use Rattle.pp_tree.specs.declared.conditions.If.{If}
use Rattle.pp_tree.specs.declared.conditions.Unless.{Unless}
use Rattle.pp_tree.specs.declared.expr.Expr.{Expr}
use Rattle.pp_tree.specs.declared.expr.Operation.{Operation}
use Rattle.pp_tree.specs.declared.expr.Pair as tree
use Rattle.pp_tree.specs.declared.expr.Piece.{Piece}
use Rattle.pp_tree.specs.declared.expr.Piece.TheVariants as piece
use Rattle.pp_tree.specs.declared.operators.PrefixOperator.{PrefixOperator}
use Rattle.pp_tree.specs.declared.operators.PrefixOperator.TheVariants as prefix
use Rattle.pp_tree.specs.declared.statement.Statement.{Statement}
use Rattle.pp_types.specs.Names.{is_type_name}
use Rattle.pp_values.specs.Datum.{Datum, Pair}
use Rattle.pp_values.specs.Keys.{is_key}
use Rattle.eval_world.specs.Inner.{Inner}
use Rattle.eval_world.specs.declared.here.Here.{Here}
use Rattle.eval_forms.specs.Accesses.{accessed_rule}
use Rattle.eval_forms.specs.Answering.{combined}
use Rattle.eval_forms.specs.Conditions.{otherwise_rule, elsifs_from, if_rule, unless_rule, takes_rule, any_takes}
use Rattle.eval_forms.specs.Conditions.{default_option, default_rule, options_from, case_rule}
use Rattle.eval_world.specs.Shapes.{is_default}
use Rattle.eval_forms.specs.Literals.{list_rule, value_rule, pair_rule, pairs_from, hash_rule, piece_rule, pieces_from}
use Rattle.eval_forms.specs.Literals.{interpolated_rule}
use Rattle.eval_forms.specs.Operators.{prefixed, prefix_rule, truth_rule, open_rule, match_rule, both_rule, kind_of}
use Rattle.eval_forms.specs.Operators.{operation_by, operation_rule, operations_from, binary_rule, assigned_rule}
use Rattle.eval_forms.specs.Selectors.{key_rule, default_pair, unselected_rule, selected_from, selected_rule}
use Rattle.eval_forms.specs.Types.{type_by, type_rule}
use Rattle.eval_forms.specs.declared.operator_kind.OperatorKind.{OperatorKind}
use Rattle.eval_forms.specs.declared.operator_kind.OperatorKind.TheVariants as kind
use Rattle.independence_laws.specs.Steps.{Same, SameInner, Two}
use Rattle.independence_laws.proofs.OfWorld.{answered_at_same, assign_same, fault_here, values_same}
use Rattle.independence_laws.proofs.Going.{and_then, pure_same, either}

module _ (two : Two) where
  pub combined_same : (o : Op) (left right : Datum) (line : ℕ) → Same two (λ here. combined o left right line here)
  unfolding combined
  combined_same o left right line = answered_at_same two (steps.combined o left right) line

  -- ---- types

  type_by_same : (b : Bool) (name : List ℕ) (line : ℕ) → Same two (λ here. type_by b name line here)
  type_by_same true name line = pure_same two
  type_by_same false name line = fault_here two line _

  pub type_same : (name : List ℕ) (line : ℕ) → Same two (λ here. type_rule name line here)
  unfolding type_rule
  type_same name line = type_by_same (is_type_name name) name line

module _ (inner : Inner) (same : SameInner inner) (two : Two) where
  -- ---- literals

  pub list_same : (es : List Expr) → Same two (λ here. list_rule inner es here)
  unfolding list_rule
  list_same es = and_then two (values_same inner same two [] es) (λ ds. pure_same two)

  member_same : (done : List Pair) (b : Bool) (key : Datum) (e : Expr) (line : ℕ) →
      Same two (λ here. value_rule inner done b key e line here)
  unfolding value_rule
  member_same done false key e line = fault_here two line _
  member_same done true key e line = and_then two (same.value e two) (λ d. pure_same two)

  pair_same : (done : List Pair) (p : tree.Pair Expr) (line : ℕ) →
      Same two (λ here. pair_rule inner done p line here)
  unfolding pair_rule
  pair_same done p line =
      and_then two (same.value p.key two) (λ key. member_same done (is_key key) key p.value line)

  pairs_same : (done : List Pair) (ps : List (tree.Pair Expr)) (line : ℕ) →
      Same two (λ here. pairs_from inner done ps line here)
  unfolding pairs_from
  pairs_same done [] line = pure_same two
  pairs_same done (p ∷ ps) line = and_then two (pair_same done p line) (λ more. pairs_same more ps line)

  pub hash_same : (ps : List (tree.Pair Expr)) (line : ℕ) → Same two (λ here. hash_rule inner ps line here)
  unfolding hash_rule
  hash_same ps line = and_then two (pairs_same [] ps line) (λ done. pure_same two)

  piece_same : (done : List ℕ) (p : Piece Expr) → Same two (λ here. piece_rule inner done p here)
  unfolding piece_rule
  piece_same done (piece.Text t) = pure_same two
  piece_same done (piece.Value e) = and_then two (same.value e two) (λ d. pure_same two)

  pieces_same : (done : List ℕ) (ps : List (Piece Expr)) → Same two (λ here. pieces_from inner done ps here)
  unfolding pieces_from
  pieces_same done [] = pure_same two
  pieces_same done (p ∷ ps) = and_then two (piece_same done p) (λ more. pieces_same more ps)

  pub interpolated_same : (ps : List (Piece Expr)) → Same two (λ here. interpolated_rule inner ps here)
  unfolding interpolated_rule
  interpolated_same ps = and_then two (pieces_same [] ps) (λ t. pure_same two)

  -- ---- operators

  prefixed_same : (o : PrefixOperator) (d : Datum) (line : ℕ) → Same two (λ here. prefixed o d line here)
  prefixed_same prefix.Not d line = pure_same two
  prefixed_same prefix.Negate d line = combined_same two _ _ _ _
  prefixed_same prefix.Splat d line = pure_same two

  pub prefix_same : (o : PrefixOperator) (e : Expr) (line : ℕ) → Same two (λ here. prefix_rule inner o e line here)
  unfolding prefix_rule
  prefix_same o e line = and_then two (same.value e two) (λ d. prefixed_same o d line)

  truth_same : (e : Expr) → Same two (λ here. truth_rule inner e here)
  unfolding truth_rule
  truth_same e = and_then two (same.value e two) (λ d. pure_same two)

  open_same : (b answer : Bool) (e : Expr) → Same two (λ here. open_rule inner b answer e here)
  unfolding open_rule
  open_same false answer e = pure_same two
  open_same true answer e = and_then two (truth_same e) (λ truth. pure_same two)

  match_same : (wanted : Bool) (left : Datum) (e : Expr) (line : ℕ) →
      Same two (λ here. match_rule inner wanted left e line here)
  unfolding match_rule
  match_same wanted left e line =
      and_then two (same.value e two) (λ right. and_then two (answered_at_same two (is_of left right) line) (λ is_one. pure_same two))

  both_same : (o : Op) (left : Datum) (e : Expr) (line : ℕ) → Same two (λ here. both_rule inner o left e line here)
  unfolding both_rule
  both_same o left e line = and_then two (same.value e two) (λ right. combined_same two o left right line)

  operation_by_same : (k : OperatorKind) (left : Datum) (e : Expr) (line : ℕ) →
      Same two (λ here. operation_by inner k left e line here)
  operation_by_same (kind.Combine o) left e line = both_same o left e line
  operation_by_same (kind.Match wanted) left e line = match_same wanted left e line
  operation_by_same kind.And left e line = open_same (is_true left) false e
  operation_by_same kind.Or left e line = open_same (not (is_true left)) true e

  operation_same : (left : Datum) (o : Operation Expr) (line : ℕ) →
      Same two (λ here. operation_rule inner left o line here)
  unfolding operation_rule
  operation_same left o line = operation_by_same (kind_of o.operator) left o.right line

  operations_same : (done : Datum) (os : List (Operation Expr)) (line : ℕ) →
      Same two (λ here. operations_from inner done os line here)
  unfolding operations_from
  operations_same done [] line = pure_same two
  operations_same done (o ∷ os) line =
      and_then two (operation_same done o line) (λ more. operations_same more os line)

  pub binary_same : (e : Expr) (os : List (Operation Expr)) (line : ℕ) →
      Same two (λ here. binary_rule inner e os line here)
  unfolding binary_rule
  binary_same e os line = and_then two (same.value e two) (λ d. operations_same d os line)

  pub assigned_same : (name : List ℕ) (e : Expr) (line : ℕ) →
      Same two (λ here. assigned_rule inner name e line here)
  unfolding assigned_rule
  assigned_same name e line =
      and_then two (same.value e two) (λ d. and_then two (assign_same two name d line) (λ u. pure_same two))

  -- ---- `if` and `unless`

  otherwise_same : (o : Option (List Statement)) (line : ℕ) → Same two (λ here. otherwise_rule inner o line here)
  unfolding otherwise_rule
  otherwise_same None line = pure_same two
  otherwise_same (Some b) line = same.block b line two

  elsifs_same : (es : List Elsif) (o : Option (List Statement)) (line : ℕ) →
      Same two (λ here. elsifs_from inner es o line here)
  unfolding elsifs_from
  elsifs_same [] o line = otherwise_same o line
  elsifs_same (e ∷ es) o line =
      and_then two (truth_same _) (λ truth. either two truth (same.block _ line two) (elsifs_same es o line))

  pub if_same : (c : If) (line : ℕ) → Same two (λ here. if_rule inner c line here)
  unfolding if_rule
  if_same c line =
      and_then two (truth_same _) (λ truth. either two truth (same.block _ line two) (elsifs_same _ _ line))

  pub unless_same : (c : Unless) (line : ℕ) → Same two (λ here. unless_rule inner c line here)
  unfolding unless_rule
  unless_same c line =
      and_then two (truth_same _) (λ truth. either two truth (otherwise_same _ line) (same.block _ line two))

  -- ---- `case`

  takes_same : (control : Datum) (e : Expr) → Same two (λ here. takes_rule inner control e here)
  unfolding takes_rule
  takes_same control e = either two (is_default e) (pure_same two) (and_then two (same.value e two) (λ option. pure_same two))

  any_takes_same : (control : Datum) (es : List Expr) → Same two (λ here. any_takes inner control es here)
  unfolding any_takes
  any_takes_same control [] = pure_same two
  any_takes_same control (e ∷ es) =
      and_then two (takes_same control e) (λ takes. either two takes (pure_same two) (any_takes_same control es))

  default_same : (o : Option CaseOption) (line : ℕ) → Same two (λ here. default_rule inner o line here)
  unfolding default_rule
  default_same None line = pure_same two
  default_same (Some o) line = same.block _ line two

  options_same : (control : Datum) (default : Option CaseOption) (os : List CaseOption) (line : ℕ) →
      Same two (λ here. options_from inner control default os line here)
  unfolding options_from
  options_same control default [] line = default_same default line
  options_same control default (o ∷ os) line = and_then two (any_takes_same control _)
      (λ takes. either two takes (same.block _ line two) (options_same control default os line))

  pub case_same : (c : Case) (line : ℕ) → Same two (λ here. case_rule inner c line here)
  unfolding case_rule
  case_same c line = and_then two (same.value _ two)
      (λ control. options_same control (default_option (out-Case c).options) (out-Case c).options line)

  -- ---- selectors and accesses

  key_same : (control : Datum) (e : Expr) → Same two (λ here. key_rule inner control e here)
  unfolding key_rule
  key_same control e = either two (is_default e) (pure_same two) (and_then two (same.value e two) (λ option. pure_same two))

  unselected_same : (o : Option (tree.Pair Expr)) (line : ℕ) →
      Same two (λ here. unselected_rule inner o line here)
  unfolding unselected_rule
  unselected_same None line = fault_here two line _
  unselected_same (Some p) line = same.value p.value two

  selected_from_same : (control : Datum) (default : Option (tree.Pair Expr)) (ps : List (tree.Pair Expr)) (line : ℕ)
      → Same two (λ here. selected_from inner control default ps line here)
  unfolding selected_from
  selected_from_same control default [] line = unselected_same default line
  selected_from_same control default (p ∷ ps) line = and_then two (key_same control p.key)
      (λ takes. either two takes (same.value p.value two) (selected_from_same control default ps line))

  pub selected_same : (control : Datum) (ps : List (tree.Pair Expr)) (line : ℕ) →
      Same two (λ here. selected_rule inner control ps line here)
  unfolding selected_rule
  selected_same control ps line = selected_from_same control (default_pair ps) ps line

  pub accessed_same : (left : Datum) (es : List Expr) (line : ℕ) →
      Same two (λ here. accessed_rule inner left es line here)
  unfolding accessed_rule
  accessed_same left es line =
      and_then two (values_same inner same two [] es) (λ ds. combined_same two _ left _ line)
