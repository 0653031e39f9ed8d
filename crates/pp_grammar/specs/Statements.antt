-- The grammar of statements.
use Rattle.std.specs.Prelude.{◌≡◌, Bool, true, false, not, List, [], ◌∷◌, Option, Some}
use Rattle.pp_lexer.specs.declared.kind.Kind.{Kind}
use Rattle.pp_lexer.specs.declared.kind.Kind.TheVariants as k
use Rattle.pp_lexer.specs.Seen.{Token}
use Rattle.pp_tree.specs.declared.expr.Expr.{Expr}
use Rattle.pp_tree.specs.declared.statement.Statement.{Statement}
use Rattle.pp_tree.specs.declared.statement.Statement.TheVariants as statement
use Rattle.pp_tree.specs.declared.statement.Operand.{Operand}
use Rattle.pp_tree.specs.declared.statement.Operand.TheVariants as operand
use Rattle.pp_tree.specs.declared.statement.Link.{Link}
use Rattle.pp_tree.specs.declared.statement.Arrow.{Arrow}
use Rattle.pp_tree.specs.declared.resource.ResourceForm.{ResourceForm}
use Rattle.pp_tree.specs.declared.resource.ResourceForm.TheVariants as resource_form
use Rattle.pp_tree.specs.declared.resource.Resource.{Resource}
use Rattle.pp_tree.specs.declared.resource.Body.{Body}
use Rattle.pp_tree.specs.declared.resource.Attribute.{Attribute}
use Rattle.pp_tree.specs.declared.resource.Attribute.TheVariants as attribute_form
use Rattle.pp_tree.specs.declared.resource.Reference.{Reference}
use Rattle.pp_tree.specs.declared.collector.Collector.{Collector}
use Rattle.pp_tree.specs.declared.collector.Query.{Query}
use Rattle.pp_tree.specs.declared.collector.Conjunction.{Conjunction}
use Rattle.pp_tree.specs.declared.collector.Test.{Test}
use Rattle.pp_tree.specs.declared.collector.Test.TheVariants as test_form
use Rattle.pp_tree.specs.Building.{chain as chain_of, link as link_of, words as words_of, resource as resource_of}
use Rattle.pp_tree.specs.Building.{body as body_of, setting as setting_of, splat as splat_of, reference as reference_of}
use Rattle.pp_tree.specs.Building.{override as override_of, defaults as defaults_of, collector as collector_of}
use Rattle.pp_tree.specs.Building.{query as query_of, conjunction as conjunction_of, comparison as comparison_of}
use Rattle.pp_parser.specs.declared.inset.Inset.TheVariants as goal
use Rattle.pp_parser.specs.declared.inset.InsetTree.TheVariants as part
use Rattle.pp_parser.specs.Input.{Input}
use Rattle.pp_grammar.specs.Kinds.{is_kind, is_name, is_word, begins_expression, ends_body, names_resource}
use Rattle.pp_grammar.specs.Operators.{arrow_at}
use Rattle.pp_grammar.specs.Places.{kind, line_at, Phrase, Stands, Within, Opens, Many, Separated, SeparatedSome, Maybe}
use Rattle.pp_grammar.specs.Places.{Begins}
use Rattle.pp_grammar.specs.Expressions.{Inner, IsWhole, IsValue}

-- `=>`, or `+>` where it may stand, and whether it appends
abbrev pub assigns : Bool → Bool → Option Kind → Bool
assigns may_append false (Some k.Arrow) = true
assigns may_append true (Some k.PlusArrow) = may_append
assigns may_append append _ = false

-- `==` or `!=`, and whether it asks for the same
abbrev pub compares : Bool → Option Kind → Bool
compares true (Some k.Equal) = true
compares false (Some k.NotEqual) = true
compares equal _ = false

-- the form that a mark before a resource gives it
abbrev pub marks : ResourceForm → Option Kind → Bool
marks resource_form.Virtual (Some k.At) = true
marks resource_form.Exported (Some k.AtAt) = true
marks form next = false

-- what brackets a collector's query, and whether it asks for exported resources
abbrev pub opens_query : Bool → Kind
opens_query true = k.OpenExported
opens_query false = k.OpenCollector

abbrev pub closes_query : Bool → Kind
closes_query true = k.CloseExported
closes_query false = k.CloseCollector

-- what tells an operand that is no expression
abbrev pub opens_collector : Option Kind → Bool
opens_collector (Some k.OpenCollector) = true
opens_collector (Some k.OpenExported) = true
opens_collector _ = false

-- what makes the name of a statement function a call or a resource
abbrev pub calls_or_declares : Option Kind → Bool
calls_or_declares (Some k.OpenParen) = true
calls_or_declares (Some k.OpenBrace) = true
calls_or_declares _ = false

abbrev pub is_arrow : Option Kind → Bool
is_arrow (Some k.InEdge) = true
is_arrow (Some k.InEdgeSub) = true
is_arrow (Some k.OutEdge) = true
is_arrow (Some k.OutEdgeSub) = true
is_arrow _ = false

module _ (N : Within) where
  -- attr = word ("=>" | "+>") expr | "*" "=>" expr
  pub data IsAttribute (may_append : Bool) : Input → Attribute Expr → Input → Type 0 where
    setting : (i j l m : Input) (word arrow : Token) (append : Bool) (x : Expr)
        → Stands is_word i word j → Stands (assigns may_append append) j arrow l → Inner N false l x m →
        IsAttribute may_append i (attribute_form.Set (setting_of word.text append x word.line)) m
    splat : (i j l m : Input) (star arrow : Token) (x : Expr)
        → Stands (is_kind k.Star) i star j → Stands (is_kind k.Arrow) j arrow l → Inner N false l x m →
        IsAttribute may_append i (attribute_form.Splat (splat_of x star.line)) m

  -- "{" [attrs] "}"
  pub data AreAttributes (may_append : Bool) : Input → List (Attribute Expr) → Input → Type 0 where
    attributes : (i j l m : Input) (opener closer : Token) (attrs : List (Attribute Expr))
        → Opens N k.OpenBrace i opener j → Separated (is_kind k.CloseBrace) k.Comma (IsAttribute may_append) j attrs l →
        Stands (is_kind k.CloseBrace) l closer m → AreAttributes may_append i attrs m

  -- body = expr ":" [attrs]
  pub data IsBody : Input → Body Expr → Input → Type 0 where
    body : (i j l m : Input) (colon : Token) (title : Expr) (attrs : List (Attribute Expr))
        → Inner N false i title j → Stands (is_kind k.Colon) j colon l →
        Separated ends_body k.Comma (IsAttribute false) l attrs m →
        IsBody i (body_of title attrs (line_at i.left)) m

  -- "{" body { ";" body } [";"] "}"
  pub data AreBodies : Input → List (Body Expr) → Input → Type 0 where
    bodies : (i j l m : Input) (opener closer : Token) (bs : List (Body Expr))
        → Opens N k.OpenBrace i opener j → SeparatedSome (is_kind k.CloseBrace) k.Semicolon IsBody j bs l →
        Stands (is_kind k.CloseBrace) l closer m → AreBodies i bs m

  -- resource = ["@" | "@@"] (NAME | "class") "{" .. "}"
  pub data IsResource : Input → Resource Expr → Input → Type 0 where
    plain : (i j l : Input) (name : Token) (bs : List (Body Expr)) → Stands names_resource i name j → AreBodies j bs l →
        IsResource i (resource_of resource_form.Plain name.text bs name.line) l
    marked : (i j l m : Input) (form : ResourceForm) (mark name : Token) (bs : List (Body Expr))
        → Stands (marks form) i mark j → Stands names_resource j name l → AreBodies l bs m →
        IsResource i (resource_of form name.text bs mark.line) m

  -- test = word ("==" | "!=") postfix | "(" query ")"
  pub data IsTest : Input → Test → Input → Type 0 where
    comparison : (i j l m : Input) (word mark : Token) (equal : Bool) (x : Expr)
        → Stands is_word i word j → Stands (compares equal) j mark l → IsValue N false l x m →
        IsTest i (test_form.Compare (comparison_of word.text equal x word.line)) m
    query : (i j l m : Input) (opener closer : Token) (q : Query)
        → Opens N k.OpenParen i opener j → N.reads goal.Query j (part.Query q) l →
        Stands (is_kind k.CloseParen) l closer m → IsTest i (test_form.Query q) m

  -- a word and what it joins
  pub data IsJoined {A : Type 0} (word : Kind) (Item : Phrase A) : Input → A → Input → Type 0 where
    joined : (i j l : Input) (t : Token) (x : A) → Stands (is_kind word) i t j → Item j x l → IsJoined word Item i x l

  -- conj = test { "and" test }
  pub data IsConjunction : Input → Conjunction → Input → Type 0 where
    conjunction : (i j l : Input) (first : Test) (more : List Test) → IsTest i first j →
        Many (IsJoined k.And IsTest) (is_kind k.And) j more l → IsConjunction i (conjunction_of (first ∷ more)) l

  -- query = conj { "or" conj }
  pub data IsQuery : Input → Query → Input → Type 0 where
    query : (i j l : Input) (first : Conjunction) (more : List Conjunction) → IsConjunction i first j →
        Many (IsJoined k.Or IsConjunction) (is_kind k.Or) j more l → IsQuery i (query_of (first ∷ more)) l

  abbrev pub InnerQuery : Phrase Query
  InnerQuery i q j = N.reads goal.Query i (part.Query q) j

  -- [ "{" [attrs] "}" ]
  pub data AreSettings : Input → List (Attribute Expr) → Input → Type 0 where
    left_out : (i : Input) → is_kind k.OpenBrace (kind i) ≡ false → AreSettings i [] i
    given : (i j : Input) (attrs : List (Attribute Expr)) → AreAttributes true i attrs j → AreSettings i attrs j

  -- collector = TYPE ("<|" [query] "|>" | "<<|" [query] "|>>") [ "{" [attrs] "}" ]
  pub data IsCollector : Input → Collector → Input → Type 0 where
    collector : (i j l m n o : Input) (exported : Bool) (type opener closer : Token) (q : Option Query)
        (attrs : List (Attribute Expr))
        → Stands (is_kind k.Type) i type j → Opens N (opens_query exported) j opener l →
        Maybe InnerQuery (λ next. not (is_kind (closes_query exported) next)) l q m
        → Stands (is_kind (closes_query exported)) m closer n → AreSettings n attrs o →
        IsCollector i (collector_of type.text exported q attrs type.line) o

  -- reference = TYPE "[" args "]"
  pub data IsReference : Input → Reference Expr → Input → Type 0 where
    reference : (i j l m n : Input) (type opener closer : Token) (xs : List Expr)
        → Stands (is_kind k.Type) i type j → Opens N k.TightBracket j opener l →
        SeparatedSome (is_kind k.CloseBracket) k.Comma (Inner N false) l xs m →
        Stands (is_kind k.CloseBracket) m closer n
        → IsReference i (reference_of type.text xs type.line) n

  -- an expression as an operand: a name before `{` and a type before the brackets of a query begin none
  pub data IsExpressionOperand : Input → Expr → Input → Type 0 where
    expression : (i j : Input) (x : Expr) → (Begins is_name (is_kind k.OpenBrace) i → ⊥) →
        (Begins (is_kind k.Type) opens_collector i → ⊥) → IsWhole N false false i x j → IsExpressionOperand i x j

  -- operand = resource | collector | expr; overrides and defaults stand alone
  pub data IsOperand : Input → Operand → Input → Type 0 where
    resource : (i j : Input) (r : Resource Expr) → IsResource i r j → IsOperand i (operand.Resource r) j
    collector : (i j : Input) (c : Collector) → IsCollector i c j → IsOperand i (operand.Collector c) j
    expression : (i j : Input) (x : Expr) → IsExpressionOperand i x j → IsOperand i (operand.Expr x) j

  -- ("->" | "~>" | "<-" | "<~") operand
  pub data IsLink : Input → Link Operand → Input → Type 0 where
    link : (i j l : Input) (t : Token) (arrow : Arrow) (o : Operand) → Stands is_arrow i t j →
        arrow_at (Some t.kind) ≡ Some arrow → IsOperand j o l → IsLink i (link_of arrow o) l

  -- chain = operand { arrow operand }
  pub data IsChain : Input → Statement → Input → Type 0 where
    chain : (i j l : Input) (first : Operand) (links : List (Link Operand)) → IsOperand i first j →
        Many IsLink is_arrow j links l
        → IsChain i (statement.Chain (chain_of first links (line_at i.left))) l

  -- [args] of a statement function: a name that `{` follows is no argument
  pub data BeginsArgument (i : Input) : Type 0 where
    argument : begins_expression (kind i) ≡ true → (Begins is_name (is_kind k.OpenBrace) i → ⊥) → BeginsArgument i

  pub data AreWords : Input → List Expr → Input → Type 0 where
    none : (i : Input) → (BeginsArgument i → ⊥) → AreWords i [] i
    last : (i j : Input) (x : Expr) → BeginsArgument i → IsWhole N false false i x j →
        is_kind k.Comma (kind j) ≡ false → AreWords i (x ∷ []) j
    more : (i j l m : Input) (t : Token) (x : Expr) (xs : List Expr) → BeginsArgument i → IsWhole N false false i x j →
        Stands (is_kind k.Comma) j t l → AreWords l xs m → AreWords i (x ∷ xs) m

  -- a type, or a reference, before `{`: it begins defaults or an override
  pub data BeginsAlone (i : Input) : Type 0 where
    type : Begins (is_kind k.Type) (is_kind k.OpenBrace) i → BeginsAlone i
    reference : (j : Input) (r : Reference Expr) → IsReference i r j → is_kind k.OpenBrace (kind j) ≡ true →
        BeginsAlone i

  -- statement = chain | override | defaults | words, and in a template also the text that stands outside of its tags,
  -- and the value between `<%=` and the end of its tag
  pub data IsStatement : Input → Statement → Input → Type 0 where
    chain : (i j : Input) (s : Statement) →
        (Begins (is_kind k.StatementFunction) (λ next. not (calls_or_declares next)) i → ⊥) → (BeginsAlone i → ⊥) →
        IsChain i s j → IsStatement i s j
    override : (i j l : Input) (r : Reference Expr) (attrs : List (Attribute Expr)) → IsReference i r j →
        AreAttributes true j attrs l
        → IsStatement i
        (statement.Chain (chain_of (operand.Override (override_of r attrs (line_at i.left))) [] (line_at i.left))) l
    defaults : (i j l : Input) (t : Token) (attrs : List (Attribute Expr)) → Stands (is_kind k.Type) i t j →
        AreAttributes false j attrs l
        → IsStatement i (statement.Chain (chain_of (operand.Defaults (defaults_of t.text attrs t.line)) [] t.line)) l
    words : (i j l : Input) (t : Token) (xs : List Expr) → Stands (is_kind k.StatementFunction) i t j →
        calls_or_declares (kind j) ≡ false → AreWords j xs l
        → IsStatement i (statement.Words (words_of t.text xs t.line)) l
    emitted_text : (i j : Input) (t : Token) → Stands (is_kind k.RenderString) i t j →
        IsStatement i (statement.Emit t.text) j
    emitted_value : (i j l m : Input) (opener closer : Token) (x : Expr)
        → Stands (is_kind k.RenderExpr) i opener j → IsWhole N false false j x l →
        Stands (is_kind k.TagEnd) l closer m → IsStatement i (statement.EmitValue x) m

  -- [";"]
  pub data IsEnd : Input → Input → Type 0 where
    left_out : (i : Input) → is_kind k.Semicolon (kind i) ≡ false → IsEnd i i
    given : (i j : Input) (t : Token) → Stands (is_kind k.Semicolon) i t j → IsEnd i j

  -- { statement [";"] } before "}"
  pub data AreStatements : Input → List Statement → Input → Type 0 where
    none : (i : Input) → is_kind k.CloseBrace (kind i) ≡ true → AreStatements i [] i
    more : (i j l m : Input) (s : Statement) (ss : List Statement) → is_kind k.CloseBrace (kind i) ≡ false →
        IsStatement i s j → IsEnd j l → AreStatements l ss m → AreStatements i (s ∷ ss) m
