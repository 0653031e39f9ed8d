-- Definitions: what stands there, the rule reads.
use Rattle.std.proofs.Common.{◌≡◌, ℕ, zero, suc, ◌<◌, ◌≤◌, true, false, List, [], ◌∷◌, ◌++◌, length, Option, Some, None, Ok, refl, ap, ◌∙◌, arith}
use Rattle.pp_lexer.specs.declared.kind.Kind.{Kind}
use Rattle.pp_lexer.specs.declared.kind.Kind.TheVariants as k
use Rattle.pp_lexer.specs.Seen.{Token}
use Rattle.pp_tree.specs.declared.expr.Expr.{Expr}
use Rattle.pp_tree.specs.declared.expr.Form.TheVariants as form
use Rattle.pp_tree.specs.declared.param.Param.{Param}
use Rattle.pp_tree.specs.declared.statement.Statement.{Statement}
use Rattle.pp_tree.specs.declared.definition.Name.{Name}
use Rattle.pp_tree.specs.declared.definition.NodeName.{NodeName}
use Rattle.pp_tree.specs.declared.definition.Definition.{Definition}
use Rattle.pp_tree.specs.declared.definition.Definition.TheVariants as definitions
use Rattle.pp_tree.specs.Building.{expr_at, class_of, define_of, function_of, node_of}
use Rattle.pp_grammar.proofs.Reader.Input.{Input, ◌<$>◌, kind, turns}
use Rattle.pp_grammar.proofs.Reader.Inner.{Inner, param_in}
use Rattle.pp_grammar.specs.Kinds.{is_kind, same_kind, is_name}
use Rattle.pp_grammar.proofs.Reader.Definitions.{name_rule, params, params_by, optional_params, inherits_by, optional_inherits, class, define, type_from_by, type_from, return_type, return_by, optional_return, function_definition, plain_text, taken_text, node_name_by, node_name_rule, node_names_from, node_names, node}
use Rattle.pp_grammar.specs.Places.{Within, Stands, Maybe}
use Rattle.pp_grammar.specs.Expressions.{Inner as InnerExpr, InnerParam, IsBlock}
use Rattle.pp_grammar.specs.FunctionBodies.{IsFunctionBlock}
use Rattle.pp_grammar.specs.Files.{IsName, AreParams, OptionalParams, IsParent, IsReturnType, IsReturn, IsNodeName, AreNodeNames, IsModuleDefinition, IsDefinition}
use Rattle.pp_grammar.proofs.Complete.Steps.{line_there, word_there, fits_there, stands_falls, take_gives, expect_gives, expect_any_gives, eat_gives, eat_leaves}
use Rattle.pp_grammar.proofs.Complete.Lists.{GivenSome, Stops, one_more, separated_falls, some_falls, maybe_falls, separated_gives, maybe_gives}
use Rattle.pp_grammar.proofs.Complete.Within.{IsFalling, IsComplete, inner_falls, inner_param_falls, open_gives, param_in_gives}
use Rattle.pp_grammar.proofs.Complete.ExpressionFalls.{block_falls}
use Rattle.pp_grammar.proofs.Complete.Parts.{block_complete}
use Rattle.pp_grammar.proofs.Complete.Expressions.{access_complete}
use Rattle.pp_grammar.proofs.Complete.FunctionBodies.{function_block_falls, function_block_complete}
use Rattle.pp_grammar.proofs.Reader.Statements.{name_of}

-- ---- how much they take

module _ (N : Within) (w : IsFalling N) where
  name_falls : {i j : Input} {name : Name} → IsName N i name j → length j.left < length i.left
  name_falls (IsName.name i j t s) = omega (arith, stands_falls s)

  params_fall : {i j : Input} {ps : List (Param Expr)} → AreParams N i ps j → length j.left < length i.left
  params_fall (AreParams.params i j l m opener closer ps o ds s) =
      omega (arith, stands_falls o.token, separated_falls (InnerParam N false) (inner_param_falls N w false) (is_kind k.CloseParen) k.Comma ds, stands_falls s)

  optional_params_fall : {i j : Input} {ps : List (Param Expr)} → OptionalParams N i ps j → length j.left ≤ length i.left
  optional_params_fall (OptionalParams.left_out i e) = omega arith
  optional_params_fall (OptionalParams.given i j ps d) = omega (arith, params_fall d)

  parent_falls : (i j : Input) (name : Name) → IsParent N i name j → length j.left < length i.left
  parent_falls _ _ _ (IsParent.parent i j l t name s d) = omega (arith, stands_falls s, name_falls d)

  node_name_falls : {i j : Input} {name : NodeName} → IsNodeName N i name j → length j.left < length i.left
  node_name_falls (IsNodeName.text i j t s) = omega (arith, stands_falls s)
  node_name_falls (IsNodeName.quoted i j l m opener run closer s e f) = omega (arith, stands_falls s, stands_falls e, stands_falls f)
  node_name_falls (IsNodeName.empty i j l opener closer s e) = omega (arith, stands_falls s, stands_falls e)
  node_name_falls (IsNodeName.name i j t s) = omega (arith, stands_falls s)
  node_name_falls (IsNodeName.default i j t s) = omega (arith, stands_falls s)

  node_names_fall : {i j : Input} {names : List NodeName} → AreNodeNames N i names j → length j.left < length i.left
  node_names_fall (AreNodeNames.last i j x d e) = node_name_falls d
  node_names_fall (AreNodeNames.more i j l m t x xs d s ds) = omega (arith, node_name_falls d, stands_falls s, node_names_fall ds)

  return_type_falls : {i j : Input} {x : Expr} → IsReturnType N i x j → length j.left < length i.left
  return_type_falls (IsReturnType.bare i j t s e) = omega (arith, stands_falls s)
  return_type_falls (IsReturnType.applied i j l m n t opener closer xs s o ds e) =
      omega (arith, stands_falls s, stands_falls o.token, some_falls (InnerExpr N false) (inner_falls N w false) (is_kind k.CloseBracket) k.Comma ds, stands_falls e)

  return_falls : (i j : Input) (x : Expr) → IsReturn N i x j → length j.left < length i.left
  return_falls _ _ _ (IsReturn.returns i j l t x s d) = omega (arith, stands_falls s, return_type_falls d)

  pub module_definition_falls : {i j : Input} {d : Definition} → IsModuleDefinition N i d j → length j.left < length i.left
  module_definition_falls (IsModuleDefinition.class i j l m n o t name ps parent ss s d ds e b) =
      omega (arith, stands_falls s, name_falls d, optional_params_fall ds, maybe_falls (IsParent N) parent_falls (is_kind k.Inherits) e, block_falls N w b)
  module_definition_falls (IsModuleDefinition.define i j l m n t name ps ss s d ds b) = omega (arith, stands_falls s, name_falls d, optional_params_fall ds, block_falls N w b)
  module_definition_falls (IsModuleDefinition.function i j l m n o t name ps type ss s d ds e b) =
      omega (arith, stands_falls s, name_falls d, optional_params_fall ds, maybe_falls (IsReturn N) return_falls (is_kind k.Returns) e, function_block_falls N w b)

  pub definition_falls : {i j : Input} {d : Definition} → IsDefinition N i d j → length j.left < length i.left
  definition_falls (IsDefinition.of_module i j d r) = module_definition_falls r
  definition_falls (IsDefinition.node i j l m t names ss s ds b) = omega (arith, stands_falls s, node_names_fall ds, block_falls N w b)

-- ---- what is read

module _ (inner : Inner) (N : Within) (c : IsComplete inner N) where
  name_complete : {i j : Input} {name : Name} → IsName N i name j → name_rule inner i ≡ Ok (name, j)
  unfolding name_rule
  name_complete (IsName.name i j t s) = rw (expect_any_gives s) refl

  params_complete : {i j : Input} {ps : List (Param Expr)} → AreParams N i ps j → params inner i ≡ Ok (ps, j)
  unfolding params
  params_complete (AreParams.params i j l m opener closer ps o ds s) =
      rw (open_gives inner N c k.OpenParen o, separated_gives (InnerParam N false) (inner_param_falls N c.falling false) (is_kind k.CloseParen) k.Comma (param_in inner false) (param_in_gives inner N c false) ds, expect_gives k.CloseParen s) refl

  params_begin : {i j : Input} {ps : List (Param Expr)} → AreParams N i ps j → kind i ≡ Some k.OpenParen
  params_begin (AreParams.params i j l m opener closer ps o ds s) = word_there o.token

  no_params : (next : Option Kind) (i : Input) → is_kind k.OpenParen next ≡ false → params_by inner next i ≡ Ok ([], i)
  unfolding is_kind same_kind
  no_params (Some k.OpenParen) i e = cc
  no_params _ i e = refl

  optional_params_complete : {i j : Input} {ps : List (Param Expr)} → OptionalParams N i ps j → optional_params inner i ≡ Ok (ps, j)
  unfolding optional_params
  optional_params_complete (OptionalParams.left_out i e) = no_params (kind i) i e
  optional_params_complete (OptionalParams.given i j ps d) = rw (params_begin d) (params_complete d)

  no_parent : (next : Option Kind) (i : Input) → is_kind k.Inherits next ≡ false → inherits_by inner next i ≡ Ok (None, i)
  unfolding is_kind same_kind
  no_parent (Some k.Inherits) i e = cc
  no_parent _ i e = refl

  parent_stops : Stops (optional_inherits inner) (is_kind k.Inherits)
  unfolding optional_inherits
  parent_stops i e = no_parent (kind i) i e

  parent_given : GivenSome (optional_inherits inner) (is_kind k.Inherits) (IsParent N)
  unfolding optional_inherits
  parent_given _ _ _ begun (IsParent.parent i j l t name s d) = rw (word_there s, take_gives s, name_complete d) refl

  parent_complete : {i j : Input} {parent : Option Name} → Maybe (IsParent N) (is_kind k.Inherits) i parent j → optional_inherits inner i ≡ Ok (parent, j)
  parent_complete d = maybe_gives (IsParent N) (is_kind k.Inherits) (optional_inherits inner) parent_stops parent_given d

  -- behind `class` and `define`
  pub class_complete : (at : ℕ) {i j l m n : Input} {name : Name} {ps : List (Param Expr)} {parent : Option Name} {ss : List Statement} → IsName N i name j → OptionalParams N j ps l → Maybe (IsParent N) (is_kind k.Inherits) l parent m → IsBlock N m ss n
      → class inner at i ≡ Ok (definitions.Class (class_of name ps parent ss at), n)
  unfolding class
  class_complete at d ds e b = rw (name_complete d, optional_params_complete ds, parent_complete e, block_complete inner N c b) refl

  pub define_complete : (at : ℕ) {i j l m : Input} {name : Name} {ps : List (Param Expr)} {ss : List Statement} → IsName N i name j → OptionalParams N j ps l → IsBlock N l ss m
      → define inner at i ≡ Ok (definitions.Define (define_of name ps ss at), m)
  unfolding define
  define_complete at d ds b = rw (name_complete d, optional_params_complete ds, block_complete inner N c b) refl

  -- ---- functions

  no_arguments : (type : Name) (next : Option Kind) (i : Input) → is_kind k.TightBracket next ≡ false → type_from_by inner type next i ≡ Ok (expr_at type.at (form.Type type.text), i)
  unfolding is_kind same_kind
  no_arguments type (Some k.TightBracket) i e = cc
  no_arguments type _ i e = refl

  return_type_complete : {i j : Input} {x : Expr} → IsReturnType N i x j → return_type inner i ≡ Ok (x, j)
  unfolding return_type type_from
  return_type_complete (IsReturnType.bare i j t s e) = rw (expect_gives k.Type s) (no_arguments (name_of t) (kind j) j e)
  return_type_complete (IsReturnType.applied i j l m n t opener closer xs s o ds e) = rw (expect_gives k.Type s, word_there o.token, access_complete inner N c o ds e) refl

  no_return : (next : Option Kind) (i : Input) → is_kind k.Returns next ≡ false → return_by inner next i ≡ Ok (None, i)
  unfolding is_kind same_kind
  no_return (Some k.Returns) i e = cc
  no_return _ i e = refl

  return_stops : Stops (optional_return inner) (is_kind k.Returns)
  unfolding optional_return
  return_stops i e = no_return (kind i) i e

  return_given : GivenSome (optional_return inner) (is_kind k.Returns) (IsReturn N)
  unfolding optional_return
  return_given _ _ _ begun (IsReturn.returns i j l t x s d) = rw (word_there s, take_gives s, return_type_complete d) refl

  return_complete : {i j : Input} {type : Option Expr} → Maybe (IsReturn N) (is_kind k.Returns) i type j → optional_return inner i ≡ Ok (type, j)
  return_complete d = maybe_gives (IsReturn N) (is_kind k.Returns) (optional_return inner) return_stops return_given d

  -- behind `function`
  pub function_definition_complete : (at : ℕ) {i j l m n : Input} {name : Name} {ps : List (Param Expr)} {type : Option Expr} {ss : List Statement}
      → IsName N i name j → OptionalParams N j ps l → Maybe (IsReturn N) (is_kind k.Returns) l type m → IsFunctionBlock N m ss n
      → function_definition inner at i ≡ Ok (definitions.Function (function_of name ps type ss at), n)
  unfolding function_definition
  function_definition_complete at d ds e b = rw (name_complete d, optional_params_complete ds, return_complete e, function_block_complete inner N c b) refl

  -- ---- nodes

  a_name : (next : Option Kind) (i : Input) → is_name next ≡ true → node_name_by inner next i ≡ (Some <$> taken_text) i
  a_name (Some k.Name) i e = refl
  a_name (Some k.StatementFunction) i e = refl
  a_name _ i e = cc

  node_name_complete : {i j : Input} {name : NodeName} → IsNodeName N i name j → node_name_rule inner i ≡ Ok (name, j)
  unfolding node_name_rule plain_text
  node_name_complete (IsNodeName.text i j t s) = rw (word_there s, take_gives s, line_there s) refl
  node_name_complete (IsNodeName.quoted i j l m opener run closer s e f) = rw (word_there s, expect_gives k.TextBegin s, word_there e, take_gives e, expect_gives k.TextEnd f, line_there s) refl
  node_name_complete (IsNodeName.empty i j l opener closer s e) = rw (word_there s, expect_gives k.TextBegin s, word_there e, expect_gives k.TextEnd e, line_there s) refl
  node_name_complete (IsNodeName.name i j t s) = rw (a_name (kind i) i (fits_there s), take_gives s, line_there s) refl
  node_name_complete (IsNodeName.default i j t s) = rw (word_there s, take_gives s, line_there s) refl

  last_name : (n : ℕ) (found : List NodeName) {i j : Input} {x : NodeName} → IsNodeName N i x j → is_kind k.Comma (kind j) ≡ false → node_names_from inner (suc n) found i ≡ Ok (found ++ x ∷ [], j)
  unfolding node_names_from
  last_name n found {j = j} d e = rw (node_name_complete d, eat_leaves k.Comma j e) refl

  more_names : (n : ℕ) (found : List NodeName) {i j l : Input} {t : Token} {x : NodeName} → IsNodeName N i x j → Stands (is_kind k.Comma) j t l → node_names_from inner (suc n) found i ≡ node_names_from inner n (found ++ x ∷ []) l
  unfolding node_names_from
  more_names n found d s = rw (node_name_complete d, eat_gives k.Comma s) refl

  -- recursion is on the turns
  node_names_from_complete : (n : ℕ) {i j : Input} {names : List NodeName} → AreNodeNames N i names j → length i.left < n → (found : List NodeName) → node_names_from inner n found i ≡ Ok (found ++ names, j)
  node_names_from_complete zero ds below found = absurd (omega arith)
  node_names_from_complete (suc n) (AreNodeNames.last i j x d e) below found = last_name n found d e
  node_names_from_complete (suc n) (AreNodeNames.more i j l m t x xs d s ds) below found =
      let less : length l.left < n = omega (arith, node_name_falls N c.falling d, stands_falls s) in
      more_names n found d s ∙ node_names_from_complete n ds less (found ++ x ∷ []) ∙ ap (λ ys. Ok (ys, m)) (one_more found x xs)

  node_names_complete : {i j : Input} {names : List NodeName} → AreNodeNames N i names j → node_names inner i ≡ Ok (names, j)
  unfolding node_names
  node_names_complete {i = i} ds = node_names_from_complete (turns i) ds (omega arith) []

  -- behind `node`
  pub node_complete : (at : ℕ) {i j l : Input} {names : List NodeName} {ss : List Statement} → AreNodeNames N i names j → IsBlock N j ss l → node inner at i ≡ Ok (definitions.Node (node_of names ss at), l)
  unfolding node
  node_complete at ds b = rw (node_names_complete ds, block_complete inner N c b) refl
