-- Templates, and their tokens.
use Rattle.std.proofs.Common.{◌≡◌, ℕ, List, [], ◌∷◌, ◌++◌, refl}
use Rattle.std.specs.Prelude.{codes}
use Rattle.std.specs.Char.{encode_utf8}
use Rattle.pp_lexer.specs.Bytes.{blank_len}
use Rattle.pp_lexer.specs.Digits.{number_value}
use Rattle.pp_lexer.specs.Escapes.{braced, four_digits, double, said}
use Rattle.pp_lexer.specs.Marks.{punctuation}
use Rattle.pp_lexer.specs.Numbers.{number}
use Rattle.pp_lexer.specs.Seen.{Token}
use Rattle.pp_lexer.specs.Texts.{quoted, in_text}
use Rattle.pp_lexer.specs.Tokens.{token, token_front, in_code, tokens_at}
use Rattle.pp_lexer.specs.Words.{name_kind, name, type_name, variable}
use Rattle.pp_lexer.specs.declared.kind.Kind.{Kind}
use Rattle.pp_lexer.specs.declared.kind.Kind.TheVariants as k
use Rattle.epp_text.specs.Pieces.{front_at, pieces_of, run, tag}
use Rattle.epp_text.specs.TemplateTokens.{joined, open_behind, params_marked, piece_tokens, template_tokens}
use Rattle.epp_text.specs.TemplateTokens.{tokens_behind, tokens_within}

-- the tokens of a template
unfoldable told : List ℕ → List Token
unfolding tokens_at blank_len name_kind name type_name variable number_value number punctuation quoted in_text token_front in_code braced four_digits double said encode_utf8 run tag front_at pieces_of joined params_marked piece_tokens tokens_behind tokens_within open_behind
told text = template_tokens (pieces_of text)

-- a token that says nothing
abbrev mark : Kind → ℕ → Token
mark kind line = token kind [] line

abbrev emitted : List ℕ → ℕ → Token
emitted text line = token k.RenderString text line

abbrev x : ℕ → Token
x line = token k.Variable (codes "x") line

-- a text is one token, what is emitted stands between marks, and a code is as it is cut by itself
pieces : (told [] ≡ [])
    × (told (codes "a") ≡ emitted (codes "a") 1 ∷ [])
    × (told (codes "<%= $x %>") ≡ mark k.RenderExpr 1 ∷ x 1 ∷ mark k.TagEnd 1 ∷ [])
    × (told (codes "<%=" ++ 10 ∷ codes "$x" ++ 10 ∷ codes "%>") ≡ mark k.RenderExpr 1 ∷ x 2 ∷ mark k.TagEnd 3 ∷ [])
    × (told (codes "<% $x %>b") ≡ x 1 ∷ emitted (codes "b") 1 ∷ [])
    × (told (codes "<% %>") ≡ [])
    × (told (codes "<%%a%%>") ≡ emitted (codes "<%") 1 ∷ emitted (codes "a") 1 ∷ emitted (codes "%>") 1 ∷ [])
unfolding told
pieces = (refl, refl, refl, refl, refl, refl, refl)

-- bars round the parameters of the first tag that is no comment, also behind a text
parameters : (told (codes "<%- | $x | -%>") ≡ mark k.ParamsBegin 1 ∷ x 1 ∷ mark k.ParamsEnd 1 ∷ mark k.TagEnd 1 ∷ [])
    × (told (codes "<%| |%>") ≡ mark k.ParamsBegin 1 ∷ mark k.ParamsEnd 1 ∷ mark k.TagEnd 1 ∷ [])
    × (told (codes "<%|%>") ≡ mark k.ParamsBegin 1 ∷ mark k.TagEnd 1 ∷ [])
    × (told (codes "<%| $x %>") ≡ mark k.ParamsBegin 1 ∷ x 1 ∷ mark k.TagEnd 1 ∷ [])
    × (told (codes "a<%# b %><%| $x |%>")
    ≡ emitted (codes "a") 1 ∷ mark k.ParamsBegin 1 ∷ x 1 ∷ mark k.ParamsEnd 1 ∷ mark k.TagEnd 1 ∷ [])
    × (told (codes "<% %><%| $x |%>") ≡ mark k.Bar 1 ∷ x 1 ∷ mark k.Bar 1 ∷ [])
    × (told (codes "<%= $x %><%|%>") ≡ mark k.RenderExpr 1 ∷ x 1 ∷ mark k.TagEnd 1 ∷ mark k.Bar 1 ∷ [])
unfolding told
parameters = (refl, refl, refl, refl, refl, refl, refl)

-- a bar at a code's end is a lambda's last one where the next code begins with `{`
lambdas : (told (codes "<% f |$x| { %>")
    ≡ token k.Name (codes "f") 1 ∷ mark k.Bar 1 ∷ x 1 ∷ mark k.LastBar 1 ∷ mark k.OpenBrace 1 ∷ [])
    × (told (codes "<% f |$x| %><% { %>")
    ≡ token k.Name (codes "f") 1 ∷ mark k.Bar 1 ∷ x 1 ∷ mark k.LastBar 1 ∷ mark k.OpenBrace 1 ∷ [])
    × (told (codes "<% f |$x| %><%# a %><% { %>")
    ≡ token k.Name (codes "f") 1 ∷ mark k.Bar 1 ∷ x 1 ∷ mark k.LastBar 1 ∷ mark k.OpenBrace 1 ∷ [])
    × (told (codes "<% f |$x| %> <% { %>")
    ≡ token k.Name (codes "f") 1 ∷ mark k.Bar 1 ∷ x 1 ∷ mark k.Bar 1 ∷ emitted (codes " ") 1
    ∷ mark k.OpenBrace 1 ∷ [])
unfolding told
lambdas = (refl, refl, refl, refl)

-- what a code leaves open ends with it, and a bracket behind a tag begins a list
cut_off : (told (codes "<% 'a %>b") ≡ mark k.TextBegin 1 ∷ mark k.Unclosed 1 ∷ emitted (codes "b") 1 ∷ [])
    × (told (codes "<% # a %>b") ≡ emitted (codes "b") 1 ∷ [])
    × (told (codes "<% $x %><%[b]%>")
    ≡ x 1 ∷ mark k.OpenBracket 1 ∷ token k.Name (codes "b") 1 ∷ mark k.CloseBracket 1 ∷ [])
    × (told (codes "a" ++ 10 ∷ codes "<% b") ≡ emitted (codes "a" ++ 10 ∷ []) 1 ∷ mark k.Bad 2 ∷ [])
unfolding told
cut_off = (refl, refl, refl, refl)

-- an interpolation too, each on the line of its end, also within another one and in the parameters; one that is closed
-- leaves nothing open
open_interpolations : (told (codes "<% " ++ 34 ∷ codes "a${ $x -%>" ++ 10 ∷ codes "b")
    ≡ mark k.TextBegin 1 ∷ token k.Piece (codes "a") 1 ∷ mark k.InterpolationBegin 1 ∷ x 1 ∷ mark k.Unclosed 1
    ∷ emitted (codes "b") 2 ∷ [])
    × (told (codes "<% " ++ 34 ∷ codes "${ $x" ++ 10 ∷ 34 ∷ codes "${ %>b")
    ≡ mark k.TextBegin 1 ∷ mark k.InterpolationBegin 1 ∷ x 1 ∷ mark k.TextBegin 2 ∷ mark k.InterpolationBegin 2
    ∷ mark k.Unclosed 2 ∷ emitted (codes "b") 2 ∷ [])
    × (told (codes "<%= " ++ 34 ∷ codes "${ $x" ++ 10 ∷ codes "%>b")
    ≡ mark k.RenderExpr 1 ∷ mark k.TextBegin 1 ∷ mark k.InterpolationBegin 1 ∷ x 1 ∷ mark k.Unclosed 2
    ∷ mark k.TagEnd 2 ∷ emitted (codes "b") 2 ∷ [])
    × (told (codes "<% " ++ 34 ∷ codes "${ $x }" ++ 34 ∷ codes " -%>b")
    ≡ mark k.TextBegin 1 ∷ mark k.InterpolationBegin 1 ∷ x 1 ∷ mark k.InterpolationEnd 1 ∷ mark k.TextEnd 1
    ∷ emitted (codes "b") 1 ∷ [])
unfolding told
open_interpolations = (refl, refl, refl, refl)
