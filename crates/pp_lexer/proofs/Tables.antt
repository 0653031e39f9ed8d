-- The tables of the code that definitions cite, each shown whole: an entry more, or another one, is refused here.
use Rattle.std.proofs.Common.{◌≡◌, List, [], ◌∷◌, map, refl}
use Rattle.std.specs.Prelude.{ℕ, codes}
use Rattle.pp_lexer.specs.declared.kind.Kind.{Kind}
use Rattle.pp_lexer.specs.declared.kind.Kind.TheVariants as k
use Rattle.pp_lexer.specs.declared.marks.TheConstants.{MARKS}
use Rattle.pp_lexer.specs.declared.words.TheConstants.{WORDS}

abbrev Table : Type 0
Table = List (List ℕ × Kind)

-- the keywords, and the functions that may be called without parentheses, the shorter first
abbrev all_words : Table
all_words =
    (codes "if", k.If) ∷ (codes "in", k.In) ∷ (codes "or", k.Or) ∷ (codes "and", k.And) ∷
    (codes "err", k.StatementFunction) ∷ (codes "case", k.Case) ∷ (codes "else", k.Else) ∷
    (codes "node", k.Node) ∷ (codes "true", k.True) ∷ (codes "info", k.StatementFunction) ∷
    (codes "fail", k.StatementFunction) ∷ (codes "class", k.Class) ∷ (codes "elsif", k.Elsif) ∷
    (codes "false", k.False) ∷ (codes "undef", k.Undef) ∷ (codes "debug", k.StatementFunction) ∷
    (codes "define", k.Define) ∷ (codes "unless", k.Unless) ∷ (codes "notice", k.StatementFunction) ∷
    (codes "default", k.Default) ∷ (codes "include", k.StatementFunction) ∷
    (codes "contain", k.StatementFunction) ∷ (codes "require", k.StatementFunction) ∷
    (codes "realize", k.StatementFunction) ∷ (codes "warning", k.StatementFunction) ∷
    (codes "function", k.Function) ∷ (codes "inherits", k.Inherits) ∷ []

words_are : map (λ w. (w.0.now, w.1)) WORDS ≡ all_words
words_are = refl

-- the punctuation, a longer mark before those that it begins with
abbrev all_marks : Table
all_marks =
    (codes "<<|", k.OpenExported) ∷ (codes "|>>", k.CloseExported) ∷ (codes "<<", k.Append) ∷
    (codes "<|", k.OpenCollector) ∷ (codes "|>", k.CloseCollector) ∷ (codes "->", k.InEdge) ∷
    (codes "~>", k.InEdgeSub) ∷ (codes "<-", k.OutEdge) ∷ (codes "<~", k.OutEdgeSub) ∷ (codes "=>", k.Arrow) ∷
    (codes "+>", k.PlusArrow) ∷ (codes "==", k.Equal) ∷ (codes "!=", k.NotEqual) ∷ (codes "=~", k.Match) ∷
    (codes "!~", k.NoMatch) ∷ (codes "<=", k.AtMost) ∷ (codes ">=", k.AtLeast) ∷ (codes ">>", k.Returns) ∷ (codes "@@", k.AtAt) ∷
    (codes "{", k.OpenBrace) ∷ (codes "}", k.CloseBrace) ∷ (codes "(", k.OpenParen) ∷ (codes ")", k.CloseParen) ∷
    (codes "[", k.OpenBracket) ∷ (codes "]", k.CloseBracket) ∷ (codes ":", k.Colon) ∷ (codes ";", k.Semicolon) ∷
    (codes ",", k.Comma) ∷ (codes ".", k.Dot) ∷ (codes "?", k.Question) ∷ (codes "@", k.At) ∷ (codes "|", k.Bar) ∷
    (codes "=", k.Assign) ∷ (codes "<", k.Less) ∷ (codes ">", k.Greater) ∷ (codes "+", k.Plus) ∷
    (codes "-", k.Minus) ∷ (codes "*", k.Star) ∷ (codes "/", k.Slash) ∷ (codes "%", k.Percent) ∷
    (codes "!", k.Bang) ∷ (34 ∷ [], k.TextBegin) ∷ []

marks_are : map (λ m. (m.0.now, m.1)) MARKS ≡ all_marks
marks_are = refl
