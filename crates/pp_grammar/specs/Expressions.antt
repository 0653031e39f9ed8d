-- The grammar of expressions.
use Rattle.std.specs.Prelude.{◌≡◌, ℕ, zero, suc, Bool, true, false, not, List, [], ◌∷◌, Option, Some, None}
use Rattle.pp_lexer.specs.declared.kind.Kind.{Kind}
use Rattle.pp_lexer.specs.declared.kind.Kind.TheVariants as k
use Rattle.pp_lexer.specs.Seen.{Token}
use Rattle.pp_tree.specs.declared.operators.BinaryOperator.{BinaryOperator}
use Rattle.pp_tree.specs.declared.operators.PrefixOperator.{PrefixOperator}
use Rattle.pp_tree.specs.declared.expr.Expr.{Expr}
use Rattle.pp_tree.specs.declared.expr.Form.{Form}
use Rattle.pp_tree.specs.declared.expr.Form.TheVariants as form
use Rattle.pp_tree.specs.declared.expr.Piece.{Piece}
use Rattle.pp_tree.specs.declared.expr.Piece.TheVariants as piece
use Rattle.pp_tree.specs.declared.expr.Pair.{Pair}
use Rattle.pp_tree.specs.declared.expr.Operation.{Operation}
use Rattle.pp_tree.specs.declared.expr.Postfix.{Postfix}
use Rattle.pp_tree.specs.declared.expr.Postfix.TheVariants as postfix
use Rattle.pp_tree.specs.declared.expr.Lambda.{Lambda}
use Rattle.pp_tree.specs.declared.param.Param.{Param}
use Rattle.pp_tree.specs.declared.statement.Statement.{Statement}
use Rattle.pp_tree.specs.declared.conditions.CaseOption.{CaseOption}
use Rattle.pp_tree.specs.declared.conditions.Elsif.{Elsif}
use Rattle.pp_tree.specs.Building.{expr_at, line_of, pair as pair_of, operation, call as call_of, lambda as lambda_of}
use Rattle.pp_tree.specs.Building.{param as param_of, elsif as elsif_of, if_of, unless_of, case_of}
use Rattle.pp_tree.specs.Building.{case_option as option_of_case}
use Rattle.pp_parser.specs.declared.inset.Inset.TheVariants as goal
use Rattle.pp_parser.specs.declared.inset.InsetTree.TheVariants as part
use Rattle.pp_parser.specs.Input.{Input}
use Rattle.pp_grammar.specs.Keys.{doubled_key, earlier_line}
use Rattle.pp_grammar.specs.Kinds.{is_kind, is_name, is_bar}
use Rattle.pp_grammar.specs.Names.{is_simple}
use Rattle.pp_grammar.specs.Operators.{operator_at, loosest, prefix_at}
use Rattle.pp_grammar.specs.Places.{kind, line_at, Phrase, Stands, Within, Opens, Many, Separated, SeparatedSome, Maybe}
use Rattle.pp_grammar.specs.Places.{Begins, before}

-- a token that begins a lambda: within the bars of a lambda's parameters, one that `{` follows ends them
abbrev pub begins_lambda : Bool → Option Kind → Bool
begins_lambda bars (Some k.Bar) = true
begins_lambda bars (Some k.LastBar) = not bars
begins_lambda bars _ = false

abbrev pub begins_piece : Option Kind → Bool
begins_piece (Some k.Piece) = true
begins_piece (Some k.VariableInText) = true
begins_piece (Some k.InterpolationBegin) = true
begins_piece _ = false

abbrev pub begins_postfix : Option Kind → Bool
begins_postfix (Some k.TightBracket) = true
begins_postfix (Some k.Dot) = true
begins_postfix (Some k.Question) = true
begins_postfix _ = false

abbrev pub is_variable : Option Kind → Bool
is_variable (Some k.Variable) = true
is_variable (Some k.QualifiedVariable) = true
is_variable _ = false

abbrev pub is_bracket : Option Kind → Bool
is_bracket (Some k.TightBracket) = true
is_bracket (Some k.OpenBracket) = true
is_bracket _ = false

-- what follows a name between `${` and `}` that is a variable
abbrev pub follows_variable : Option Kind → Bool
follows_variable (Some k.InterpolationEnd) = true
follows_variable (Some k.TightBracket) = true
follows_variable (Some k.OpenBracket) = true
follows_variable (Some k.Dot) = true
follows_variable _ = false

-- an operand alone is no chain
abbrev pub chained : Expr → List (Operation Expr) → Expr
chained first [] = first
chained first (o ∷ os) = expr_at (line_of first) (form.Binary first (o ∷ os))

abbrev pub postfixed : Expr → List Postfix → Expr
postfixed base [] = base
postfixed base (p ∷ ps) = expr_at (line_of base) (form.Postfix base (p ∷ ps))

-- the pieces of a text whose first run of characters is this, if it has one
abbrev pub pieces : List ℕ → List (Piece Expr) → List (Piece Expr)
pieces [] more = more
pieces (b ∷ bs) more = piece.Text (b ∷ bs) ∷ more

-- a hash literal of these pairs ends here
abbrev pub noted : List (Pair Expr) → Input → Input
noted pairs i = record { left = i.left; doubled = earlier_line i.doubled (doubled_key pairs) }

module _ (N : Within) where
  -- an expression one level further in
  abbrev pub Inner : Bool → Phrase Expr
  Inner bars i x j = N.reads (goal.Whole bars) i (part.Expr x) j

  abbrev pub InnerParam : Bool → Phrase (Param Expr)
  InnerParam bars i p j = N.reads (goal.Param bars) i (part.Param p) j

  abbrev pub InnerOption : Phrase CaseOption
  InnerOption i o j = N.reads goal.CaseOption i (part.CaseOption o) j

  -- block = "{" { statement [";"] } "}"
  pub data IsBlock : Input → List Statement → Input → Type 0 where
    block : (i j l m : Input) (opener closer : Token) (ss : List Statement)
        → Opens N k.OpenBrace i opener j → N.reads goal.Statements j (part.Block ss) l →
        Stands (is_kind k.CloseBrace) l closer m → IsBlock i ss m

  -- "(" [args] ")"
  pub data AreArguments : Input → List Expr → Input → Type 0 where
    arguments : (i j l m : Input) (opener closer : Token) (xs : List Expr)
        → Opens N k.OpenParen i opener j → Separated (is_kind k.CloseParen) k.Comma (Inner false) j xs l →
        Stands (is_kind k.CloseParen) l closer m → AreArguments i xs m

  -- the same or nothing
  pub data OptionalArguments : Input → List Expr → Input → Type 0 where
    left_out : (i : Input) → is_kind k.OpenParen (kind i) ≡ false → OptionalArguments i [] i
    given : (i j : Input) (xs : List Expr) → AreArguments i xs j → OptionalArguments i xs j

  -- lambda = "|" params "|" block
  pub data IsLambda : Input → Lambda → Input → Type 0 where
    lambda : (i j l m n : Input) (bar : Kind) (first last : Token) (ps : List (Param Expr)) (ss : List Statement)
        → is_bar (Some bar) ≡ true → Opens N bar i first j → Separated is_bar k.Comma (InnerParam true) j ps l →
        Stands is_bar l last m → IsBlock m ss n
        → IsLambda i (lambda_of ps ss) n

  -- call = NAME "(" [args] ")" [lambda], or the name alone: what stands behind the name
  pub data IsCallOrName (bars : Bool) (name : List ℕ) : Input → Form → Input → Type 0 where
    call : (i j l : Input) (xs : List Expr) (last : Option Lambda) → AreArguments i xs j →
        Maybe IsLambda (begins_lambda bars) j last l → IsCallOrName bars name i (form.Call (call_of name xs last)) l
    name : (i : Input) → is_kind k.OpenParen (kind i) ≡ false → IsCallOrName bars name i (form.Name name) i

  -- a piece of a text in double quotes
  pub data IsPiece : Input → Piece Expr → Input → Type 0 where
    run : (i j : Input) (t : Token) → Stands (is_kind k.Piece) i t j → IsPiece i (piece.Text t.text) j
    variable : (i j : Input) (t : Token) → Stands (is_kind k.VariableInText) i t j →
        IsPiece i (piece.Value (expr_at t.line (form.Variable t.text))) j
    interpolation : (i j l m : Input) (opener closer : Token) (x : Expr)
        → Opens N k.InterpolationBegin i opener j → N.reads goal.Interpolated j (part.Expr x) l →
        Stands (is_kind k.InterpolationEnd) l closer m → IsPiece i (piece.Value x) m

  -- the run that a text begins with, or the empty one
  pub data IsFirstRun : Input → List ℕ → Input → Type 0 where
    none : (i : Input) → is_kind k.Piece (kind i) ≡ false → IsFirstRun i [] i
    run : (i j : Input) (t : Token) → Stands (is_kind k.Piece) i t j → IsFirstRun i t.text j

  -- a text in double quotes
  pub data IsQuoted : Input → Form → Input → Type 0 where
    plain : (i j l m : Input) (opener closer : Token) (said : List ℕ)
        → Stands (is_kind k.TextBegin) i opener j → IsFirstRun j said l → Stands (is_kind k.TextEnd) l closer m →
        IsQuoted i (form.Text said) m
    interpolated : (i j l m n : Input) (opener closer : Token) (said : List ℕ) (more : List (Piece Expr))
        → Stands (is_kind k.TextBegin) i opener j → IsFirstRun j said l → is_kind k.TextEnd (kind l) ≡ false →
        Many IsPiece begins_piece l more m
        → Stands (is_kind k.TextEnd) m closer n → IsQuoted i (form.Interpolated (pieces said more)) n

  -- what opens a level until the end of its condition, and the condition
  pub data IsCondition (word : Kind) : Input → Expr → Input → Type 0 where
    condition : (i j l : Input) (t : Token) (x : Expr) → Opens N word i t j → Inner false j x l → IsCondition word i x l

  -- "elsif" expr block
  pub data IsElsif : Input → Elsif → Input → Type 0 where
    elsif : (i j l : Input) (x : Expr) (ss : List Statement) → IsCondition k.Elsif i x j → IsBlock j ss l →
        IsElsif i (elsif_of x ss) l

  -- "else" block
  pub data IsElse : Input → List Statement → Input → Type 0 where
    otherwise : (i j l : Input) (t : Token) (ss : List Statement) → Stands (is_kind k.Else) i t j → IsBlock j ss l →
        IsElse i ss l

  -- expr "=>" expr
  pub data IsPair : Input → Pair Expr → Input → Type 0 where
    pair : (i j l m : Input) (arrow : Token) (x y : Expr) → Inner false i x j → Stands (is_kind k.Arrow) j arrow l →
        Inner false l y m → IsPair i (pair_of x y) m

  -- primary = literal | VARIABLE | TYPE | list | hash | call | if | unless | case | "(" expr ")"
  pub data IsPrimary (bars : Bool) : Input → Form → Input → Type 0 where
    named : (i j l : Input) (t : Token) (f : Form) → Stands is_name i t j → IsCallOrName bars t.text j f l →
        IsPrimary bars i f l
    type : (i j : Input) (t : Token) → Stands (is_kind k.Type) i t j → IsPrimary bars i (form.Type t.text) j
    variable : (i j : Input) (t : Token) → Stands is_variable i t j → IsPrimary bars i (form.Variable t.text) j
    number : (i j : Input) (t : Token) → Stands (is_kind k.Number) i t j → IsPrimary bars i (form.Number t.number) j
    text : (i j : Input) (t : Token) → Stands (is_kind k.Text) i t j → IsPrimary bars i (form.Text t.text) j
    quoted : (i j : Input) (f : Form) → IsQuoted i f j → IsPrimary bars i f j
    true_word : (i j : Input) (t : Token) → Stands (is_kind k.True) i t j → IsPrimary bars i (form.Flag true) j
    false_word : (i j : Input) (t : Token) → Stands (is_kind k.False) i t j → IsPrimary bars i (form.Flag false) j
    undef : (i j : Input) (t : Token) → Stands (is_kind k.Undef) i t j → IsPrimary bars i form.Undef j
    default : (i j : Input) (t : Token) → Stands (is_kind k.Default) i t j → IsPrimary bars i form.Default j
    list : (i j l m : Input) (bracket : Kind) (opener closer : Token) (xs : List Expr) →
        is_bracket (Some bracket) ≡ true
        → Opens N bracket i opener j → Separated (is_kind k.CloseBracket) k.Comma (Inner false) j xs l →
        Stands (is_kind k.CloseBracket) l closer m → IsPrimary bars i (form.List xs) m
    hash : (i j l m : Input) (opener closer : Token) (ps : List (Pair Expr))
        → Opens N k.OpenBrace i opener j → Separated (is_kind k.CloseBrace) k.Comma IsPair j ps l →
        Stands (is_kind k.CloseBrace) l closer m → IsPrimary bars i (form.Hash ps) (noted ps m)
    parentheses : (i j l m : Input) (opener closer : Token) (x : Expr)
        → Opens N k.OpenParen i opener j → Inner false j x l → Stands (is_kind k.CloseParen) l closer m →
        IsPrimary bars i (form.Parentheses x) m
    if_word : (i j l m n : Input) (x : Expr) (ss : List Statement) (es : List Elsif) (last : Option (List Statement))
        → IsCondition k.If i x j → IsBlock j ss l → Many IsElsif (is_kind k.Elsif) l es m →
        Maybe IsElse (is_kind k.Else) m last n → IsPrimary bars i (form.If (if_of x ss es last)) n
    unless_word : (i j l m : Input) (x : Expr) (ss : List Statement) (last : Option (List Statement))
        → IsCondition k.Unless i x j → IsBlock j ss l → Maybe IsElse (is_kind k.Else) l last m →
        IsPrimary bars i (form.Unless (unless_of x ss last)) m
    case_word : (i j l m n : Input) (opener closer : Token) (x : Expr) (os : List CaseOption)
        → IsCondition k.Case i x j → Opens N k.OpenBrace j opener l →
        Many InnerOption (λ next. not (is_kind k.CloseBrace next)) l os m →
        Stands (is_kind k.CloseBrace) m closer n → IsPrimary bars i (form.Case (case_of x os)) n

  -- postfix: "[" args "]" | "." NAME ["(" [args] ")"] [lambda] | "?" "{" options "}"
  pub data IsPostfix (bars : Bool) : Input → Postfix → Input → Type 0 where
    access : (i j l m : Input) (opener closer : Token) (xs : List Expr)
        → Opens N k.TightBracket i opener j → SeparatedSome (is_kind k.CloseBracket) k.Comma (Inner false) j xs l →
        Stands (is_kind k.CloseBracket) l closer m → IsPostfix bars i (postfix.Access xs) m
    method : (i j l m n : Input) (dot name : Token) (xs : List Expr) (last : Option Lambda)
        → Stands (is_kind k.Dot) i dot j → Stands is_name j name l → OptionalArguments l xs m →
        Maybe IsLambda (begins_lambda bars) m last n →
        IsPostfix bars i (postfix.Method (call_of name.text xs last)) n
    selector : (i j l m n : Input) (mark opener closer : Token) (ps : List (Pair Expr))
        → Stands (is_kind k.Question) i mark j → Opens N k.OpenBrace j opener l →
        SeparatedSome (is_kind k.CloseBrace) k.Comma IsPair l ps m → Stands (is_kind k.CloseBrace) m closer n →
        IsPostfix bars i (postfix.Select ps) n

  -- a value and what follows it
  pub data IsValue (bars : Bool) : Input → Expr → Input → Type 0 where
    value : (i j l : Input) (f : Form) (ps : List Postfix) → IsPrimary bars i f j →
        Many (IsPostfix bars) begins_postfix j ps l → IsValue bars i (postfixed (expr_at (line_at i.left) f) ps) l

  -- prefix operators and a value
  pub data IsOperand (bars : Bool) : Input → Expr → Input → Type 0 where
    prefixed : (i j l : Input) (mark : Kind) (t : Token) (o : PrefixOperator) (x : Expr) →
        prefix_at (Some mark) ≡ Some o
        → Opens N mark i t j → N.reads (goal.Operand bars) j (part.Expr x) l →
        IsOperand bars i (expr_at t.line (form.Prefix o x)) l
    value : (i j : Input) (x : Expr) → IsValue bars i x j → IsOperand bars i x j

  -- operators of one strength and tighter, which associate to the left
  mutual
    pub data IsBinary (bars : Bool) : ℕ → Input → Expr → Input → Type 0 where
      operand : (i j : Input) (x : Expr) → IsOperand bars i x j → IsBinary bars zero i x j
      chain : (tighter : ℕ) (i j l : Input) (x : Expr) (os : List (Operation Expr)) → IsBinary bars tighter i x j →
          AreOperations bars (suc tighter) j os l → IsBinary bars (suc tighter) i (chained x os) l

    pub data AreOperations (bars : Bool) : ℕ → Input → List (Operation Expr) → Input → Type 0 where
      none : (strength : ℕ) (i : Input) → operator_at strength (kind i) ≡ None → AreOperations bars strength i [] i
      more : (tighter : ℕ) (i j l m : Input) (t : Token) (o : BinaryOperator) (x : Expr) (os : List (Operation Expr)) →
          i ≡ before t j → operator_at (suc tighter) (Some t.kind) ≡ Some o
          → IsBinary bars tighter j x l → AreOperations bars (suc tighter) l os m →
          AreOperations bars (suc tighter) i (operation o x ∷ os) m

  -- expr = VARIABLE "=" expr | binary. The second flag is that of the expression behind `=`.
  pub data IsWhole (bars behind : Bool) : Input → Expr → Input → Type 0 where
    assigned : (i j l m : Input) (t mark : Token) (x : Expr) → Stands (is_kind k.Variable) i t j →
        Opens N k.Assign j mark l → Inner behind l x m
        → IsWhole bars behind i (expr_at t.line (form.Assign t.text x)) m
    binary : (i j : Input) (x : Expr) → (Begins (is_kind k.Variable) (is_kind k.Assign) i → ⊥) →
        IsBinary bars loosest i x j → IsWhole bars behind i x j

  -- ---- what stands between `${` and `}`: a name there is a variable where `}`, `[` or `.` follows it

  pub data IsNameThere : Input → Form → Input → Type 0 where
    variable : (i j : Input) (t : Token) → Stands is_name i t j → follows_variable (kind j) ≡ true →
        IsNameThere i (form.Variable t.text) j
    other : (i j l : Input) (t : Token) (f : Form) → Stands is_name i t j → follows_variable (kind j) ≡ false →
        IsCallOrName false t.text j f l → IsNameThere i f l

  pub data IsValueThere : Input → Expr → Input → Type 0 where
    value : (i j l : Input) (f : Form) (ps : List Postfix) → IsNameThere i f j →
        Many (IsPostfix false) begins_postfix j ps l → IsValueThere i (postfixed (expr_at (line_at i.left) f) ps) l

  -- the same as a chain's first operand
  pub data IsBinaryThere : ℕ → Input → Expr → Input → Type 0 where
    value : (i j : Input) (x : Expr) → IsValueThere i x j → IsBinaryThere zero i x j
    chain : (tighter : ℕ) (i j l : Input) (x : Expr) (os : List (Operation Expr)) → IsBinaryThere tighter i x j →
        AreOperations false (suc tighter) j os l → IsBinaryThere (suc tighter) i (chained x os) l

  pub data IsInterpolated : Input → Expr → Input → Type 0 where
    by_name : (i j : Input) (x : Expr) → is_name (kind i) ≡ true → IsBinaryThere loosest i x j → IsInterpolated i x j
    other : (i j : Input) (x : Expr) → is_name (kind i) ≡ false → IsWhole false false i x j → IsInterpolated i x j

  -- ---- param = [expr] VARIABLE ["=" expr]. Its line is that of its variable.

  pub data IsDefault (bars : Bool) : Input → Expr → Input → Type 0 where
    default : (i j l : Input) (mark : Token) (x : Expr) → Opens N k.Assign i mark j → Inner bars j x l →
        IsDefault bars i x l

  -- A variable, or its assignment, that was read as an expression: a name has no colon.
  pub data AsParam (at : ℕ) : Expr → Param Expr → Type 0 where
    plain : (line : ℕ) (name : List ℕ) → is_simple name ≡ true →
        AsParam at (expr_at line (form.Variable name)) (param_of None name None at)
    with_default : (line : ℕ) (name : List ℕ) (x : Expr) →
        AsParam at (expr_at line (form.Assign name x)) (param_of None name (Some x) at)

  pub data IsParam (bars : Bool) : Input → Param Expr → Input → Type 0 where
    untyped : (i j : Input) (x : Expr) (p : Param Expr) → IsWhole false bars i x j →
        is_kind k.Variable (kind j) ≡ false → AsParam (line_at i.left) x p → IsParam bars i p j
    typed : (i j l m : Input) (type : Expr) (t : Token) (last : Option Expr) → IsWhole false bars i type j →
        Stands (is_kind k.Variable) j t l
        → Maybe (IsDefault bars) (is_kind k.Assign) l last m →
        IsParam bars i (param_of (Some type) t.text last t.line) m

  -- args ":" block
  pub data IsCaseOption : Input → CaseOption → Input → Type 0 where
    option : (i j l m : Input) (colon : Token) (xs : List Expr) (ss : List Statement)
        → SeparatedSome (is_kind k.Colon) k.Comma (IsWhole false false) i xs j → Stands (is_kind k.Colon) j colon l →
        IsBlock l ss m → IsCaseOption i (option_of_case xs ss (line_at i.left)) m
