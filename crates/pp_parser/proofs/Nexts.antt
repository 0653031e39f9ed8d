-- What is told of the next token.
use Rattle.std.proofs.Common.{◌≡◌, List, [], ◌∷◌, None, Some, drop, ap, sym, ◌∙◌}
use Rattle.pp_lexer.specs.Seen.{Token}
use Rattle.pp_lexer.specs.declared.kind.Kind.{Kind}
use Rattle.pp_parser.specs.Input.{kind_at, line_at}

pub kind_none : (l : List Token) → l ≡ [] → None ≡ kind_at l
unfolding kind_at
kind_none l none = ap kind_at (sym none)

pub kind_some : (l : List Token) (t : Token) (k : Kind) → k ≡ t.kind → l ≡ t ∷ drop 1 l → Some k ≡ kind_at l
unfolding kind_at
kind_some l t k is some = ap Some is ∙ ap kind_at (sym some)

pub line_none : (l : List Token) → l ≡ [] → 0 ≡ line_at l
unfolding line_at
line_none l none = ap line_at (sym none)

pub line_some : (l : List Token) (t : Token) → l ≡ t ∷ drop 1 l → t.line ≡ line_at l
unfolding line_at
line_some l t some = ap line_at (sym some)
