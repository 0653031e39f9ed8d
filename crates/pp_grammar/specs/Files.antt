-- The grammar of files, and how the rules stand within one another.
use Rattle.std.specs.Prelude.{◌≡◌, ℕ, zero, suc, ltb, true, false, List, [], ◌∷◌, length, Option, Some, None}
use Rattle.pp_lexer.specs.declared.kind.Kind.TheVariants as k
use Rattle.pp_lexer.specs.Seen.{Token}
use Rattle.pp_tree.specs.declared.expr.Expr.{Expr}
use Rattle.pp_tree.specs.declared.expr.Form.TheVariants as form
use Rattle.pp_tree.specs.declared.expr.Postfix.TheVariants as postfix
use Rattle.pp_tree.specs.declared.param.Param.{Param}
use Rattle.pp_tree.specs.declared.statement.Statement.{Statement}
use Rattle.pp_tree.specs.declared.definition.Name.{Name}
use Rattle.pp_tree.specs.declared.definition.NodeName.{NodeName}
use Rattle.pp_tree.specs.declared.definition.Definition.{Definition}
use Rattle.pp_tree.specs.declared.definition.Definition.TheVariants as definitions
use Rattle.pp_tree.specs.Building.{expr_at, name_at, class_of, define_of, function_of, node_of}
use Rattle.pp_tree.specs.Building.{node_name as node_name_at}
use Rattle.pp_parser.specs.declared.inset.Inset.{Inset}
use Rattle.pp_parser.specs.declared.inset.Inset.TheVariants as goal
use Rattle.pp_parser.specs.declared.inset.InsetTree.{InsetTree}
use Rattle.pp_parser.specs.declared.inset.InsetTree.TheVariants as part
use Rattle.pp_parser.specs.Input.{Input}
use Rattle.pp_grammar.specs.Kinds.{is_kind, is_name}
use Rattle.pp_grammar.specs.Names.{node_name}
use Rattle.pp_grammar.specs.Places.{kind, Phrase, Stands, Within, Opens, Separated, SeparatedSome, Maybe}
use Rattle.pp_grammar.specs.Expressions.{Inner, InnerParam, IsBlock, IsWhole, IsOperand, IsInterpolated, IsParam}
use Rattle.pp_grammar.specs.Expressions.{IsCaseOption}
use Rattle.pp_grammar.specs.Statements.{IsStatement, IsEnd, AreStatements, IsQuery}
use Rattle.pp_grammar.specs.FunctionBodies.{AreFunctionStatements, IsFunctionBlock}

module _ (N : Within) where
  pub data IsName : Input → Name → Input → Type 0 where
    name : (i j : Input) (t : Token) → Stands is_name i t j → IsName i (name_at t.text t.line) j

  -- "(" params ")"
  pub data AreParams : Input → List (Param Expr) → Input → Type 0 where
    params : (i j l m : Input) (opener closer : Token) (ps : List (Param Expr))
        → Opens N k.OpenParen i opener j → Separated (is_kind k.CloseParen) k.Comma (InnerParam N false) j ps l →
        Stands (is_kind k.CloseParen) l closer m → AreParams i ps m

  -- the same or nothing
  pub data OptionalParams : Input → List (Param Expr) → Input → Type 0 where
    left_out : (i : Input) → is_kind k.OpenParen (kind i) ≡ false → OptionalParams i [] i
    given : (i j : Input) (ps : List (Param Expr)) → AreParams i ps j → OptionalParams i ps j

  -- "inherits" NAME
  pub data IsParent : Input → Name → Input → Type 0 where
    parent : (i j l : Input) (t : Token) (name : Name) → Stands (is_kind k.Inherits) i t j → IsName j name l →
        IsParent i name l

  -- name = text | NAME | "default"
  pub data IsNodeName : Input → NodeName → Input → Type 0 where
    text : (i j : Input) (t : Token) → Stands (is_kind k.Text) i t j →
        IsNodeName i (node_name_at (node_name t.text) t.line) j
    quoted : (i j l m : Input) (opener run closer : Token) → Stands (is_kind k.TextBegin) i opener j →
        Stands (is_kind k.Piece) j run l → Stands (is_kind k.TextEnd) l closer m
        → IsNodeName i (node_name_at (node_name run.text) opener.line) m
    empty : (i j l : Input) (opener closer : Token) → Stands (is_kind k.TextBegin) i opener j →
        Stands (is_kind k.TextEnd) j closer l → IsNodeName i (node_name_at (node_name []) opener.line) l
    name : (i j : Input) (t : Token) → Stands is_name i t j → IsNodeName i (node_name_at (Some t.text) t.line) j
    default : (i j : Input) (t : Token) → Stands (is_kind k.Default) i t j → IsNodeName i (node_name_at None t.line) j

  -- name { "," name }
  pub data AreNodeNames : Input → List NodeName → Input → Type 0 where
    last : (i j : Input) (x : NodeName) → IsNodeName i x j → is_kind k.Comma (kind j) ≡ false →
        AreNodeNames i (x ∷ []) j
    more : (i j l m : Input) (t : Token) (x : NodeName) (xs : List NodeName) → IsNodeName i x j →
        Stands (is_kind k.Comma) j t l → AreNodeNames l xs m → AreNodeNames i (x ∷ xs) m

  -- TYPE ["[" args "]"]
  pub data IsReturnType : Input → Expr → Input → Type 0 where
    bare : (i j : Input) (t : Token) → Stands (is_kind k.Type) i t j → is_kind k.TightBracket (kind j) ≡ false →
        IsReturnType i (expr_at t.line (form.Type t.text)) j
    applied : (i j l m n : Input) (t opener closer : Token) (xs : List Expr)
        → Stands (is_kind k.Type) i t j → Opens N k.TightBracket j opener l →
        SeparatedSome (is_kind k.CloseBracket) k.Comma (Inner N false) l xs m →
        Stands (is_kind k.CloseBracket) m closer n
        → IsReturnType i (expr_at t.line (form.Postfix (expr_at t.line (form.Type t.text)) (postfix.Access xs ∷ []))) n

  -- ">>" type
  pub data IsReturn : Input → Expr → Input → Type 0 where
    returns : (i j l : Input) (t : Token) (x : Expr) → Stands (is_kind k.Returns) i t j → IsReturnType j x l →
        IsReturn i x l

  -- what may be defined in module files too:
  -- class = "class" NAME ["(" params ")"] ["inherits" NAME] block, define alike;
  -- function = "function" NAME ["(" params ")"] [">>" type] "{" { statement [";"] } "}"
  pub data IsModuleDefinition : Input → Definition → Input → Type 0 where
    class : (i j l m n o : Input) (t : Token) (name : Name) (ps : List (Param Expr)) (parent : Option Name)
        (ss : List Statement)
        → Stands (is_kind k.Class) i t j → IsName j name l → OptionalParams l ps m →
        Maybe IsParent (is_kind k.Inherits) m parent n → IsBlock N n ss o
        → IsModuleDefinition i (definitions.Class (class_of name ps parent ss t.line)) o
    define : (i j l m n : Input) (t : Token) (name : Name) (ps : List (Param Expr)) (ss : List Statement)
        → Stands (is_kind k.Define) i t j → IsName j name l → OptionalParams l ps m → IsBlock N m ss n →
        IsModuleDefinition i (definitions.Define (define_of name ps ss t.line)) n
    function : (i j l m n o : Input) (t : Token) (name : Name) (ps : List (Param Expr)) (type : Option Expr)
        (ss : List Statement)
        → Stands (is_kind k.Function) i t j → IsName j name l → OptionalParams l ps m →
        Maybe IsReturn (is_kind k.Returns) m type n → IsFunctionBlock N n ss o
        → IsModuleDefinition i (definitions.Function (function_of name ps type ss t.line)) o

  pub data IsDefinition : Input → Definition → Input → Type 0 where
    of_module : (i j : Input) (d : Definition) → IsModuleDefinition i d j → IsDefinition i d j
    -- node = "node" name { "," name } block
    node : (i j l m : Input) (t : Token) (names : List NodeName) (ss : List Statement) → Stands (is_kind k.Node) i t j →
        AreNodeNames j names l → IsBlock N l ss m
        → IsDefinition i (definitions.Node (node_of names ss t.line)) m

  -- A main manifest: statements and definitions, each with at most one `;` behind it, up to the end of the file.
  pub data IsMain : Input → List Statement → List Definition → Input → Type 0 where
    end : (i : Input) → kind i ≡ None → IsMain i [] [] i
    statement : (i j l m : Input) (s : Statement) (ss : List Statement) (ds : List Definition) → IsStatement N i s j →
        IsEnd N j l → IsMain l ss ds m → IsMain i (s ∷ ss) ds m
    definition : (i j l m : Input) (d : Definition) (ss : List Statement) (ds : List Definition) → IsDefinition i d j →
        IsEnd N j l → IsMain l ss ds m → IsMain i ss (d ∷ ds) m

  -- a module file: classes, defines and functions
  pub data IsModule : Input → List Definition → Input → Type 0 where
    end : (i : Input) → kind i ≡ None → IsModule i [] i
    definition : (i j l m : Input) (d : Definition) (ds : List Definition) → IsModuleDefinition i d j → IsEnd N j l →
        IsModule l ds m → IsModule i (d ∷ ds) m

  -- what a goal asks for
  abbrev pub IsPart : Inset → Phrase InsetTree
  IsPart (goal.Whole bars) i (part.Expr x) j = IsWhole N bars bars i x j
  IsPart (goal.Operand bars) i (part.Expr x) j = IsOperand N bars i x j
  IsPart goal.Interpolated i (part.Expr x) j = IsInterpolated N i x j
  IsPart (goal.Param bars) i (part.Param p) j = IsParam N bars i p j
  IsPart goal.Statements i (part.Block ss) j = AreStatements N i ss j
  IsPart goal.FunctionStatements i (part.Block ss) j = AreFunctionStatements N i ss j
  IsPart goal.CaseOption i (part.CaseOption o) j = IsCaseOption N i o j
  IsPart goal.Query i (part.Query q) j = IsQuery N i q j
  IsPart g i p j = ⊥

-- What stands within brackets, where so many levels may be opened. The limit holds up to the place from which so many
-- tokens are left: from there on, so many further ones may be opened.
unfoldable pub LevelsTo : (behind levels further : ℕ) → Within
LevelsTo behind zero zero = record { is_deepest = λ i. true; reads = λ g i p j. ⊥ }
LevelsTo behind zero (suc further) =
    record { is_deepest = λ i. ltb behind (length i.left); reads = IsPart (LevelsTo behind zero further) }
LevelsTo behind (suc levels) further =
    record { is_deepest = λ i. false; reads = IsPart (LevelsTo behind levels further) }
