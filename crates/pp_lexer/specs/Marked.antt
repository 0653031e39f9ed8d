-- Tokens whose kind is told by what stands round them in a list.
use Rattle.std.specs.Prelude.{ℕ, List, [], Option, None, Some, slice_set}
use Rattle.pp_lexer.specs.Seen.{Token}
use Rattle.pp_lexer.specs.Tokens.{token}
use Rattle.pp_lexer.specs.declared.kind.Kind.{Kind}

-- the kind of a token, where there is one
abbrev pub kind_of : Option Token → Option Kind
kind_of None = None
kind_of (Some t) = Some t.kind

-- the token at a place is one of this kind, which says nothing, on its line
abbrev pub marked : ℕ → Kind → Option Token → List Token → List Token
marked place kind None ts = ts
marked place kind (Some t) ts = slice_set ts place (token kind [] t.line)
