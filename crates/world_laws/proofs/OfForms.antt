-- The forms of expressions that are no calls.
use Rattle.std.proofs.Common.{ℕ, Bool, true, false, List, [], ◌∷◌, Option, None, Some}
use Rattle.std.specs.Prelude.{not}
use Rattle.expr_eval.specs.Truth.{is_true}
use Rattle.pp_ops.specs.declared.op.Op.{Op}
use Rattle.pp_tree.specs.declared.conditions.Case.{Case, out-Case}
use Rattle.pp_tree.specs.declared.conditions.CaseOption.{CaseOption}
use Rattle.pp_tree.specs.declared.conditions.Elsif.{Elsif}
use Rattle.pp_tree.specs.declared.conditions.If.{If}
use Rattle.pp_tree.specs.declared.conditions.Unless.{Unless}
use Rattle.pp_tree.specs.declared.expr.Expr.{Expr}
use Rattle.pp_tree.specs.declared.expr.Operation.{Operation}
use Rattle.pp_tree.specs.declared.expr.Pair as tree
use Rattle.pp_tree.specs.declared.expr.Piece.{Piece}
use Rattle.pp_tree.specs.declared.expr.Piece.TheVariants as piece
use Rattle.pp_tree.specs.declared.operators.PrefixOperator.{PrefixOperator}
use Rattle.pp_tree.specs.declared.operators.PrefixOperator.TheVariants as prefix
use Rattle.pp_tree.specs.declared.statement.Statement.{Statement}
use Rattle.pp_types.specs.Names.{is_type_name}
use Rattle.pp_values.specs.Datum.{Datum, Pair}
use Rattle.pp_values.specs.Keys.{is_key}
use Rattle.eval_world.specs.Inner.{Inner}
use Rattle.eval_world.specs.declared.here.Here.{Here}
use Rattle.eval_forms.specs.Accesses.{accessed_rule}
use Rattle.eval_forms.specs.Answering.{combined}
use Rattle.eval_forms.specs.Conditions.{otherwise_rule, elsifs_from, if_rule, unless_rule, takes_rule, any_takes}
use Rattle.eval_forms.specs.Conditions.{default_option, default_rule, options_from, case_rule}
use Rattle.eval_world.specs.Shapes.{is_default}
use Rattle.eval_forms.specs.Literals.{list_rule, value_rule, pair_rule, pairs_from, hash_rule, piece_rule, pieces_from}
use Rattle.eval_forms.specs.Literals.{interpolated_rule}
use Rattle.eval_forms.specs.Operators.{prefixed, prefix_rule, truth_rule, open_rule, match_rule, both_rule, kind_of}
use Rattle.eval_forms.specs.Operators.{operation_by, operation_rule, operations_from, binary_rule, assigned_rule}
use Rattle.eval_forms.specs.Selectors.{key_rule, default_pair, unselected_rule, selected_from, selected_rule}
use Rattle.eval_forms.specs.Types.{type_by, type_rule}
use Rattle.eval_forms.specs.declared.operator_kind.OperatorKind.{OperatorKind}
use Rattle.eval_forms.specs.declared.operator_kind.OperatorKind.TheVariants as kind
use Rattle.world_laws.specs.Growing.{Grows, GrowsInner}
use Rattle.world_laws.proofs.OfWorld.{assign_grows, values_grow}
use Rattle.world_laws.proofs.Steps.{and_then, pure_grows, answer_grows, fault_grows, either}

pub combined_grows : (o : Op) (left right : Datum) (line : ℕ) (here : Here) → Grows (combined o left right line here)
unfolding combined
combined_grows o left right line here = answer_grows _

-- ---- types

type_by_grows : (b : Bool) (name : List ℕ) (line : ℕ) (here : Here) → Grows (type_by b name line here)
type_by_grows true name line here = pure_grows
type_by_grows false name line here = fault_grows _

pub type_grows : (name : List ℕ) (line : ℕ) (here : Here) → Grows (type_rule name line here)
unfolding type_rule
type_grows name line here = type_by_grows (is_type_name name) name line here

module _ (inner : Inner) (g : GrowsInner inner) where
  -- ---- literals

  pub list_grows : (es : List Expr) (here : Here) → Grows (list_rule inner es here)
  unfolding list_rule
  list_grows es here = and_then (values_grow inner g [] es here) (λ ds. pure_grows)

  member_grows : (done : List Pair) (b : Bool) (key : Datum) (e : Expr) (line : ℕ) (here : Here) →
      Grows (value_rule inner done b key e line here)
  unfolding value_rule
  member_grows done false key e line here = fault_grows _
  member_grows done true key e line here = and_then (g.value e here) (λ d. pure_grows)

  pair_grows : (done : List Pair) (p : tree.Pair Expr) (line : ℕ) (here : Here) →
      Grows (pair_rule inner done p line here)
  unfolding pair_rule
  pair_grows done p line here =
      and_then (g.value p.key here) (λ key. member_grows done (is_key key) key p.value line here)

  pairs_grow : (done : List Pair) (ps : List (tree.Pair Expr)) (line : ℕ) (here : Here) →
      Grows (pairs_from inner done ps line here)
  unfolding pairs_from
  pairs_grow done [] line here = pure_grows
  pairs_grow done (p ∷ ps) line here = and_then (pair_grows done p line here) (λ more. pairs_grow more ps line here)

  pub hash_grows : (ps : List (tree.Pair Expr)) (line : ℕ) (here : Here) → Grows (hash_rule inner ps line here)
  unfolding hash_rule
  hash_grows ps line here = and_then (pairs_grow [] ps line here) (λ done. pure_grows)

  piece_grows : (done : List ℕ) (p : Piece Expr) (here : Here) → Grows (piece_rule inner done p here)
  unfolding piece_rule
  piece_grows done (piece.Text t) here = pure_grows
  piece_grows done (piece.Value e) here = and_then (g.value e here) (λ d. pure_grows)

  pieces_grow : (done : List ℕ) (ps : List (Piece Expr)) (here : Here) → Grows (pieces_from inner done ps here)
  unfolding pieces_from
  pieces_grow done [] here = pure_grows
  pieces_grow done (p ∷ ps) here = and_then (piece_grows done p here) (λ more. pieces_grow more ps here)

  pub interpolated_grows : (ps : List (Piece Expr)) (here : Here) → Grows (interpolated_rule inner ps here)
  unfolding interpolated_rule
  interpolated_grows ps here = and_then (pieces_grow [] ps here) (λ t. pure_grows)

  -- ---- operators

  prefixed_grows : (o : PrefixOperator) (d : Datum) (line : ℕ) (here : Here) → Grows (prefixed o d line here)
  prefixed_grows prefix.Not d line here = pure_grows
  prefixed_grows prefix.Negate d line here = combined_grows _ _ _ _ _
  prefixed_grows prefix.Splat d line here = pure_grows

  pub prefix_grows : (o : PrefixOperator) (e : Expr) (line : ℕ) (here : Here) → Grows (prefix_rule inner o e line here)
  unfolding prefix_rule
  prefix_grows o e line here = and_then (g.value e here) (λ d. prefixed_grows o d line here)

  truth_grows : (e : Expr) (here : Here) → Grows (truth_rule inner e here)
  unfolding truth_rule
  truth_grows e here = and_then (g.value e here) (λ d. pure_grows)

  open_grows : (b answer : Bool) (e : Expr) (here : Here) → Grows (open_rule inner b answer e here)
  unfolding open_rule
  open_grows false answer e here = pure_grows
  open_grows true answer e here = and_then (truth_grows e here) (λ truth. pure_grows)

  match_grows : (wanted : Bool) (left : Datum) (e : Expr) (line : ℕ) (here : Here) →
      Grows (match_rule inner wanted left e line here)
  unfolding match_rule
  match_grows wanted left e line here =
      and_then (g.value e here) (λ right. and_then (answer_grows _) (λ is_one. pure_grows))

  both_grows : (o : Op) (left : Datum) (e : Expr) (line : ℕ) (here : Here) → Grows (both_rule inner o left e line here)
  unfolding both_rule
  both_grows o left e line here = and_then (g.value e here) (λ right. combined_grows o left right line here)

  operation_by_grows : (k : OperatorKind) (left : Datum) (e : Expr) (line : ℕ) (here : Here) →
      Grows (operation_by inner k left e line here)
  operation_by_grows (kind.Combine o) left e line here = both_grows o left e line here
  operation_by_grows (kind.Match wanted) left e line here = match_grows wanted left e line here
  operation_by_grows kind.And left e line here = open_grows (is_true left) false e here
  operation_by_grows kind.Or left e line here = open_grows (not (is_true left)) true e here

  operation_grows : (left : Datum) (o : Operation Expr) (line : ℕ) (here : Here) →
      Grows (operation_rule inner left o line here)
  unfolding operation_rule
  operation_grows left o line here = operation_by_grows (kind_of o.operator) left o.right line here

  operations_grow : (done : Datum) (os : List (Operation Expr)) (line : ℕ) (here : Here) →
      Grows (operations_from inner done os line here)
  unfolding operations_from
  operations_grow done [] line here = pure_grows
  operations_grow done (o ∷ os) line here =
      and_then (operation_grows done o line here) (λ more. operations_grow more os line here)

  pub binary_grows : (e : Expr) (os : List (Operation Expr)) (line : ℕ) (here : Here) →
      Grows (binary_rule inner e os line here)
  unfolding binary_rule
  binary_grows e os line here = and_then (g.value e here) (λ d. operations_grow d os line here)

  pub assigned_grows : (name : List ℕ) (e : Expr) (line : ℕ) (here : Here) →
      Grows (assigned_rule inner name e line here)
  unfolding assigned_rule
  assigned_grows name e line here =
      and_then (g.value e here) (λ d. and_then (assign_grows here name d line) (λ u. pure_grows))

  -- ---- `if` and `unless`

  otherwise_grows : (o : Option (List Statement)) (line : ℕ) (here : Here) → Grows (otherwise_rule inner o line here)
  unfolding otherwise_rule
  otherwise_grows None line here = pure_grows
  otherwise_grows (Some b) line here = g.block b line here

  elsifs_grow : (es : List Elsif) (o : Option (List Statement)) (line : ℕ) (here : Here) →
      Grows (elsifs_from inner es o line here)
  unfolding elsifs_from
  elsifs_grow [] o line here = otherwise_grows o line here
  elsifs_grow (e ∷ es) o line here =
      and_then (truth_grows _ here) (λ truth. either truth (g.block _ line here) (elsifs_grow es o line here))

  pub if_grows : (c : If) (line : ℕ) (here : Here) → Grows (if_rule inner c line here)
  unfolding if_rule
  if_grows c line here =
      and_then (truth_grows _ here) (λ truth. either truth (g.block _ line here) (elsifs_grow _ _ line here))

  pub unless_grows : (c : Unless) (line : ℕ) (here : Here) → Grows (unless_rule inner c line here)
  unfolding unless_rule
  unless_grows c line here =
      and_then (truth_grows _ here) (λ truth. either truth (otherwise_grows _ line here) (g.block _ line here))

  -- ---- `case`

  takes_grows : (control : Datum) (e : Expr) (here : Here) → Grows (takes_rule inner control e here)
  unfolding takes_rule
  takes_grows control e here = either (is_default e) pure_grows (and_then (g.value e here) (λ option. pure_grows))

  any_takes_grows : (control : Datum) (es : List Expr) (here : Here) → Grows (any_takes inner control es here)
  unfolding any_takes
  any_takes_grows control [] here = pure_grows
  any_takes_grows control (e ∷ es) here =
      and_then (takes_grows control e here) (λ takes. either takes pure_grows (any_takes_grows control es here))

  default_grows : (o : Option CaseOption) (line : ℕ) (here : Here) → Grows (default_rule inner o line here)
  unfolding default_rule
  default_grows None line here = pure_grows
  default_grows (Some o) line here = g.block _ line here

  options_grow : (control : Datum) (default : Option CaseOption) (os : List CaseOption) (line : ℕ) (here : Here) →
      Grows (options_from inner control default os line here)
  unfolding options_from
  options_grow control default [] line here = default_grows default line here
  options_grow control default (o ∷ os) line here = and_then (any_takes_grows control _ here)
      (λ takes. either takes (g.block _ line here) (options_grow control default os line here))

  pub case_grows : (c : Case) (line : ℕ) (here : Here) → Grows (case_rule inner c line here)
  unfolding case_rule
  case_grows c line here = and_then (g.value _ here)
      (λ control. options_grow control (default_option (out-Case c).options) (out-Case c).options line here)

  -- ---- selectors and accesses

  key_grows : (control : Datum) (e : Expr) (here : Here) → Grows (key_rule inner control e here)
  unfolding key_rule
  key_grows control e here = either (is_default e) pure_grows (and_then (g.value e here) (λ option. pure_grows))

  unselected_grows : (o : Option (tree.Pair Expr)) (line : ℕ) (here : Here) →
      Grows (unselected_rule inner o line here)
  unfolding unselected_rule
  unselected_grows None line here = fault_grows _
  unselected_grows (Some p) line here = g.value p.value here

  selected_from_grows : (control : Datum) (default : Option (tree.Pair Expr)) (ps : List (tree.Pair Expr)) (line : ℕ)
      (here : Here) → Grows (selected_from inner control default ps line here)
  unfolding selected_from
  selected_from_grows control default [] line here = unselected_grows default line here
  selected_from_grows control default (p ∷ ps) line here = and_then (key_grows control p.key here)
      (λ takes. either takes (g.value p.value here) (selected_from_grows control default ps line here))

  pub selected_grows : (control : Datum) (ps : List (tree.Pair Expr)) (line : ℕ) (here : Here) →
      Grows (selected_rule inner control ps line here)
  unfolding selected_rule
  selected_grows control ps line here = selected_from_grows control (default_pair ps) ps line here

  pub accessed_grows : (left : Datum) (es : List Expr) (line : ℕ) (here : Here) →
      Grows (accessed_rule inner left es line here)
  unfolding accessed_rule
  accessed_grows left es line here =
      and_then (values_grow inner g [] es here) (λ ds. combined_grows _ left _ line here)
