-- The grammar of templates, over their tokens.
use Rattle.std.specs.Prelude.{◌≡◌, false, List, [], ◌∷◌, ◌++◌, Option, None}
use Rattle.pp_lexer.specs.declared.kind.Kind.TheVariants as k
use Rattle.pp_lexer.specs.Seen.{Token}
use Rattle.pp_tree.specs.declared.expr.Expr.{Expr}
use Rattle.pp_tree.specs.declared.param.Param.{Param}
use Rattle.pp_tree.specs.declared.statement.Statement.{Statement}
use Rattle.pp_tree.specs.declared.statement.Statement.TheVariants as statement
use Rattle.pp_tree.specs.declared.template.Template.{Template}
use Rattle.pp_tree.specs.Building.{template_of}
use Rattle.pp_parser.specs.Input.{Input}
use Rattle.pp_grammar.specs.Kinds.{is_kind, ends_params}
use Rattle.pp_grammar.specs.Places.{kind, Stands, Within, Many, Separated, Maybe}
use Rattle.pp_grammar.specs.Expressions.{IsParam}
use Rattle.pp_grammar.specs.Statements.{IsStatement, IsEnd}

module _ (N : Within) where
  -- text [";"] before the first tag
  pub data IsLeadingText : Input → Statement → Input → Type 0 where
    text : (i j l : Input) (t : Token) → Stands (is_kind k.RenderString) i t j → IsEnd N j l →
        IsLeadingText i (statement.Emit t.text) l

  -- "|" [params] "|" and the end of its tag; the bars open no level
  pub data AreTemplateParams : Input → List (Param Expr) → Input → Type 0 where
    params : (i j l m n : Input) (opener last closer : Token) (ps : List (Param Expr))
        → Stands (is_kind k.ParamsBegin) i opener j → Separated ends_params k.Comma (IsParam N false) j ps l →
        Stands ends_params l last m → Stands (is_kind k.TagEnd) m closer n
        → AreTemplateParams i ps n

  -- { statement [";"] } up to the end
  pub data AreStatementsToEnd : Input → List Statement → Input → Type 0 where
    end : (i : Input) → kind i ≡ None → AreStatementsToEnd i [] i
    more : (i j l m : Input) (s : Statement) (ss : List Statement) → IsStatement N i s j → IsEnd N j l →
        AreStatementsToEnd l ss m → AreStatementsToEnd i (s ∷ ss) m

  -- template = { text [";"] } ["|" [params] "|"] { statement [";"] }
  pub data IsTemplate : Input → Template → Input → Type 0 where
    template : (i j l m : Input) (texts ss : List Statement) (ps : Option (List (Param Expr)))
        → Many IsLeadingText (is_kind k.RenderString) i texts j →
        Maybe AreTemplateParams (is_kind k.ParamsBegin) j ps l → AreStatementsToEnd l ss m
        → IsTemplate i (template_of ps (texts ++ ss)) m
