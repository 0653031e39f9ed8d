-- The tokens of a template, from its pieces.
use Rattle.std.specs.Prelude.{ℕ, nat_lt, Bool, true, false, ◌&&◌, ◌+◌, ◌-◌, List, [], ◌∷◌, ◌++◌, length, slice_get}
use Rattle.std.specs.Prelude.{Option, Some}
use Rattle.pp_lexer.specs.Marked.{kind_of, marked}
use Rattle.pp_lexer.specs.Seen.{Token}
use Rattle.pp_lexer.specs.Tokens.{token, tokens_at}
use Rattle.pp_lexer.specs.declared.kind.Kind.{Kind}
use Rattle.pp_lexer.specs.declared.kind.Kind.TheVariants as k
use Rattle.epp_text.specs.Pieces.{line_behind}
use Rattle.epp_text.specs.Seen.{Piece}
use Rattle.epp_text.specs.declared.piece.PieceKind.{PieceKind}
use Rattle.epp_text.specs.declared.piece.PieceKind.TheVariants as kinds

-- ---- bars

abbrev pub is_bar : Option Kind → Bool
is_bar (Some k.Bar) = true
is_bar (Some k.LastBar) = true
is_bar _ = false

abbrev pub kind_at : List Token → ℕ → Option Kind
kind_at ts place = kind_of (slice_get ts place)

abbrev pub last_place : List Token → ℕ
last_place ts = length ts - 1

-- the token at a place is one of this kind
abbrev pub with_kind : List Token → ℕ → Kind → List Token
with_kind ts place kind = marked place kind (slice_get ts place) ts

-- the token at the place is one of this kind, where it is a bar
abbrev pub with_bar : Bool → List Token → ℕ → Kind → List Token
with_bar false ts place kind = ts
with_bar true ts place kind = with_kind ts place kind

-- ---- parameters

-- The bar that begins a code begins the parameters, and one that is its last token ends them.
abbrev pub params_begun : List Token → List Token
params_begun ts = with_kind ts 0 k.ParamsBegin

unfoldable pub params_marked : List Token → List Token
params_marked ts =
    let begun = params_begun ts in
    with_bar (is_bar (kind_at begun (last_place begun))) begun (last_place begun) k.ParamsEnd

-- ---- what a code leaves open

abbrev pub open_by : Kind → ℕ → ℕ
open_by k.InterpolationBegin count = count + 1
open_by k.InterpolationEnd count = count - 1
open_by _ count = count

-- how many interpolations are open behind these tokens, where so many were open before
unfoldable pub open_behind : ℕ → List Token → ℕ
open_behind count [] = count
open_behind count (t ∷ ts) = open_behind (open_by t.kind count) ts

abbrev pub cut_off : Bool → List ℕ → ℕ → List Token
cut_off false text line = []
cut_off true text line = token k.Unclosed [] (line_behind line text) ∷ []

-- The tokens of a text by itself. Its end cuts an interpolation off, as it cuts off a text or a comment.
unfoldable pub tokens_within : List ℕ → ℕ → List Token
tokens_within text line =
    let ts = tokens_at line text in
    ts ++ cut_off (nat_lt 0 (open_behind 0 ts)) text line

-- ---- pieces

-- the end of a tag, on the line of its `%>`
abbrev pub tag_end : List ℕ → ℕ → Token
tag_end text line = token k.TagEnd [] (line_behind line text)

-- a code that may declare parameters
abbrev pub first_code : Bool → List Token → List ℕ → ℕ → List Token
first_code false ts text line = ts
first_code true ts text line = params_marked ts ++ tag_end text line ∷ []

-- the tokens of a code by themselves; the first tag may declare parameters, where a bar begins it
abbrev pub code_tokens : Bool → List ℕ → ℕ → List Token
code_tokens first text line =
    let ts = tokens_within text line in
    first_code (first && is_bar (kind_at ts 0)) ts text line

abbrev pub value_tokens : List ℕ → ℕ → List Token
value_tokens text line = token k.RenderExpr [] line ∷ (tokens_within text line ++ tag_end text line ∷ [])

-- a text is one token, and a tag that nothing ends is one that stands nowhere
abbrev pub tokens_by : PieceKind → Bool → List ℕ → ℕ → List Token
tokens_by kinds.Text first text line = token k.RenderString text line ∷ []
tokens_by kinds.Code first text line = code_tokens first text line
tokens_by kinds.Value first text line = value_tokens text line
tokens_by kinds.Unclosed first text line = token k.Bad [] line ∷ []

unfoldable pub piece_tokens : Bool → Piece → List Token
piece_tokens first p = tokens_by p.kind first p.text p.line

-- ---- one behind another

abbrev pub opens_block : Option Kind → Option Kind → Bool
opens_block (Some k.Bar) (Some k.OpenBrace) = true
opens_block _ _ = false

-- A bar that `{` follows, where the next code begins with it, is the last one of a lambda's parameters, as within one
-- code.
unfoldable pub joined : List Token → List Token → List Token
joined before after =
    with_bar (opens_block (kind_at before (last_place before)) (kind_at after 0)) before (last_place before) k.LastBar
    ++ after

-- whether the first tag is still to come
abbrev pub first_behind : Bool → PieceKind → Bool
first_behind first kinds.Text = first
first_behind first _ = false

unfoldable pub tokens_behind : Bool → List Token → List Piece → List Token
tokens_behind first done [] = done
tokens_behind first done (p ∷ ps) =
    tokens_behind (first_behind first p.kind) (joined done (piece_tokens first p)) ps

-- the tokens of these pieces
abbrev pub template_tokens : List Piece → List Token
template_tokens ps = tokens_behind true [] ps
