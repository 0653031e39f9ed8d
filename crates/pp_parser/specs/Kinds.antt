-- Which kinds of token play which part.
use Rattle.std.specs.Prelude.{Bool, true, false, Option, Some, None}
use Rattle.pp_lexer.specs.declared.kind.Kind.{Kind}
use Rattle.pp_lexer.specs.contracts.kind.Kind.{the_type}
use denote.Enum.Bare.{sameb}
use Rattle.pp_lexer.specs.declared.kind.Kind.TheVariants as k

-- a name, where it is not told apart from the name of a statement function
abbrev pub is_name : Option Kind → Bool
is_name (Some k.Name) = true
is_name (Some k.StatementFunction) = true
is_name _ = false

-- a name or a keyword, as the name of an attribute
abbrev pub is_word : Option Kind → Bool
is_word (Some k.Name) = true
is_word (Some k.StatementFunction) = true
is_word (Some k.And) = true
is_word (Some k.Case) = true
is_word (Some k.Class) = true
is_word (Some k.Default) = true
is_word (Some k.Define) = true
is_word (Some k.Else) = true
is_word (Some k.Elsif) = true
is_word (Some k.False) = true
is_word (Some k.Function) = true
is_word (Some k.If) = true
is_word (Some k.In) = true
is_word (Some k.Inherits) = true
is_word (Some k.Node) = true
is_word (Some k.Or) = true
is_word (Some k.True) = true
is_word (Some k.Undef) = true
is_word (Some k.Unless) = true
is_word _ = false

-- a token that an expression may begin with
abbrev pub begins_expression : Option Kind → Bool
begins_expression (Some k.Name) = true
begins_expression (Some k.StatementFunction) = true
begins_expression (Some k.Type) = true
begins_expression (Some k.Variable) = true
begins_expression (Some k.QualifiedVariable) = true
begins_expression (Some k.Number) = true
begins_expression (Some k.Text) = true
begins_expression (Some k.TextBegin) = true
begins_expression (Some k.True) = true
begins_expression (Some k.False) = true
begins_expression (Some k.Undef) = true
begins_expression (Some k.Default) = true
begins_expression (Some k.TightBracket) = true
begins_expression (Some k.OpenBracket) = true
begins_expression (Some k.OpenBrace) = true
begins_expression (Some k.OpenParen) = true
begins_expression (Some k.If) = true
begins_expression (Some k.Unless) = true
begins_expression (Some k.Case) = true
begins_expression (Some k.Bang) = true
begins_expression (Some k.Minus) = true
begins_expression (Some k.Star) = true
begins_expression _ = false

-- a bar of a lambda's parameters
abbrev pub is_bar : Option Kind → Bool
is_bar (Some k.Bar) = true
is_bar (Some k.LastBar) = true
is_bar _ = false

-- a bar that may end a template's parameters
abbrev pub ends_params : Option Kind → Bool
ends_params (Some k.Bar) = true
ends_params (Some k.LastBar) = true
ends_params (Some k.ParamsEnd) = true
ends_params _ = false

-- the end of a resource body's attributes
abbrev pub ends_body : Option Kind → Bool
ends_body (Some k.Semicolon) = true
ends_body (Some k.CloseBrace) = true
ends_body _ = false

-- a token that something behind a value may begin with
abbrev pub begins_postfix : Option Kind → Bool
begins_postfix (Some k.TightBracket) = true
begins_postfix (Some k.Dot) = true
begins_postfix (Some k.Question) = true
begins_postfix _ = false

-- `==` on kinds
unfoldable pub same_kind : Kind → Kind → Bool
same_kind = sameb the_type

-- whether the next token is of this kind
unfoldable pub is_kind : Kind → Option Kind → Bool
is_kind k None = false
is_kind k (Some other) = same_kind other k
