-- The grammar of the body of a function: statement functions with their arguments, and expressions.
use Rattle.std.specs.Prelude.{◌≡◌, Bool, false, not, List, [], Option}
use Rattle.pp_lexer.specs.declared.kind.Kind.{Kind}
use Rattle.pp_lexer.specs.declared.kind.Kind.TheVariants as k
use Rattle.pp_lexer.specs.Seen.{Token}
use Rattle.pp_tree.specs.declared.expr.Expr.{Expr}
use Rattle.pp_tree.specs.declared.statement.Statement.{Statement}
use Rattle.pp_tree.specs.declared.statement.Statement.TheVariants as statement
use Rattle.pp_tree.specs.declared.statement.Operand.TheVariants as operand
use Rattle.pp_tree.specs.Building.{chain as chain_of, words as words_of}
use Rattle.pp_parser.specs.declared.inset.Inset.TheVariants as goal
use Rattle.pp_parser.specs.declared.inset.InsetTree.TheVariants as part
use Rattle.pp_parser.specs.Input.{Input}
use Rattle.pp_grammar.specs.Kinds.{is_kind, is_name, begins_expression}
use Rattle.pp_grammar.specs.Places.{kind, line_at, Phrase, Stands, Within, Opens, Many, Separated, Begins}
use Rattle.pp_grammar.specs.Expressions.{IsWhole}
use Rattle.pp_grammar.specs.Statements.{calls_or_declares, IsEnd}

-- what no argument begins with
abbrev pub begins_none : Option Kind → Bool
begins_none next = not (begins_expression next)

module _ (N : Within) where
  -- an expression; where a name begins it, no `{` follows the name, since a resource would begin there
  pub data IsUnbraced : Input → Expr → Input → Type 0 where
    unbraced : (i j : Input) (x : Expr) → (Begins is_name (is_kind k.OpenBrace) i → ⊥) → IsWhole N false false i x j →
        IsUnbraced i x j

  -- [args] of a statement function, up to a token that begins none
  abbrev pub AreFunctionWords : Phrase (List Expr)
  AreFunctionWords = Separated begins_none k.Comma IsUnbraced

  -- statement = words | expr
  pub data IsFunctionStatement : Input → Statement → Input → Type 0 where
    words : (i j l : Input) (t : Token) (xs : List Expr) → Stands (is_kind k.StatementFunction) i t j →
        calls_or_declares (kind j) ≡ false → AreFunctionWords j xs l
        → IsFunctionStatement i (statement.Words (words_of t.text xs t.line)) l
    expression : (i j : Input) (x : Expr) →
        (Begins (is_kind k.StatementFunction) (λ next. not (calls_or_declares next)) i → ⊥) → IsUnbraced i x j
        → IsFunctionStatement i (statement.Chain (chain_of (operand.Expr x) [] (line_at i.left))) j

  -- statement [";"]
  pub data IsEndedStatement : Input → Statement → Input → Type 0 where
    ended : (i j l : Input) (s : Statement) → IsFunctionStatement i s j → IsEnd N j l → IsEndedStatement i s l

  -- { statement [";"] } before "}"
  abbrev pub AreFunctionStatements : Phrase (List Statement)
  AreFunctionStatements = Many IsEndedStatement (λ next. not (is_kind k.CloseBrace next))

  -- "{" { statement [";"] } "}"
  pub data IsFunctionBlock : Input → List Statement → Input → Type 0 where
    block : (i j l m : Input) (opener closer : Token) (ss : List Statement)
        → Opens N k.OpenBrace i opener j → N.reads goal.FunctionStatements j (part.Block ss) l →
        Stands (is_kind k.CloseBrace) l closer m → IsFunctionBlock i ss m
