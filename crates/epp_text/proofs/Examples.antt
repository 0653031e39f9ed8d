-- Templates, and their pieces.
use Rattle.std.proofs.Common.{◌≡◌, ℕ, List, [], ◌∷◌, ◌++◌, refl}
use Rattle.std.specs.Prelude.{codes}
use Rattle.epp_text.specs.Pieces.{front_at, piece, pieces_of, run, tag}
use Rattle.epp_text.specs.Seen.{Piece}
use Rattle.epp_text.specs.declared.piece.PieceKind.TheVariants as kinds

abbrev text : List ℕ → ℕ → Piece
text t line = piece kinds.Text t line

abbrev code : List ℕ → ℕ → Piece
code t line = piece kinds.Code t line

abbrev value : List ℕ → ℕ → Piece
value t line = piece kinds.Value t line

abbrev unclosed : ℕ → Piece
unclosed line = piece kinds.Unclosed [] line

-- what stands outside of tags is text as it is, and `%>` alone is text there too
texts : (pieces_of [] ≡ [])
    × (pieces_of (codes " a  b ") ≡ text (codes " a  b ") 1 ∷ [])
    × (pieces_of (codes "a % b < c %> d -%>") ≡ text (codes "a % b < c %> d -%>") 1 ∷ [])
    × (pieces_of (codes "a" ++ 10 ∷ 13 ∷ 10 ∷ codes "b") ≡ text (codes "a" ++ 10 ∷ 13 ∷ 10 ∷ codes "b") 1 ∷ [])
    × (pieces_of (195 ∷ 182 ∷ codes "<% a %>" ++ 195 ∷ 182 ∷ [])
    ≡ text (195 ∷ 182 ∷ []) 1 ∷ code (codes " a ") 1 ∷ text (195 ∷ 182 ∷ []) 1 ∷ [])
unfolding run tag front_at pieces_of
texts = (refl, refl, refl, refl, refl)

-- `<%` begins code, and the next `%>` ends it
codes_of : (pieces_of (codes "<% a %>") ≡ code (codes " a ") 1 ∷ [])
    × (pieces_of (codes "a<%b%>c") ≡ text (codes "a") 1 ∷ code (codes "b") 1 ∷ text (codes "c") 1 ∷ [])
    × (pieces_of (codes "<%a%><%b%>") ≡ code (codes "a") 1 ∷ code (codes "b") 1 ∷ [])
    × (pieces_of (codes "<% %>") ≡ code (codes " ") 1 ∷ [])
    × (pieces_of (codes "<% '<%' %%> %>") ≡ code (codes " '<%' %") 1 ∷ text (codes " %>") 1 ∷ [])
unfolding run tag front_at pieces_of
codes_of = (refl, refl, refl, refl, refl)

-- `<%=` emits a value
values : (pieces_of (codes "<%= $x %>") ≡ value (codes " $x ") 1 ∷ [])
    × (pieces_of (codes "<%=%>") ≡ value [] 1 ∷ [])
    × (pieces_of (codes "<% = %>") ≡ code (codes " = ") 1 ∷ [])
    × (pieces_of (codes "a <%=1%> b") ≡ text (codes "a ") 1 ∷ value (codes "1") 1 ∷ text (codes " b") 1 ∷ [])
unfolding run tag front_at pieces_of
values = (refl, refl, refl, refl)

-- `<%#` is a comment
comments : (pieces_of (codes "<%# a %>") ≡ [])
    × (pieces_of (codes "a <%#%> b") ≡ text (codes "a ") 1 ∷ text (codes " b") 1 ∷ [])
    × (pieces_of (codes "<%# <%= a %>b%>") ≡ text (codes "b%>") 1 ∷ [])
    × (pieces_of (codes "<%#" ++ 10 ∷ codes "-%> " ++ 10 ∷ codes "b") ≡ text (codes "b") 3 ∷ [])
unfolding run tag front_at pieces_of
comments = (refl, refl, refl, refl)

-- `<%%` is the text `<%`
openers : (pieces_of (codes "<%%") ≡ text (codes "<%") 1 ∷ [])
    × (pieces_of (codes "a<%%= b %>") ≡ text (codes "a") 1 ∷ text (codes "<%") 1 ∷ text (codes "= b %>") 1 ∷ [])
    × (pieces_of (codes "<%%>") ≡ text (codes "<%") 1 ∷ text (codes ">") 1 ∷ [])
    × (pieces_of (codes "<%%<% a %>") ≡ text (codes "<%") 1 ∷ code (codes " a ") 1 ∷ [])
unfolding run tag front_at pieces_of
openers = (refl, refl, refl, refl)

-- `%%>` is the text `%>`
closers : (pieces_of (codes "%%>") ≡ text (codes "%>") 1 ∷ [])
    × (pieces_of (codes "a%%>b") ≡ text (codes "a") 1 ∷ text (codes "%>") 1 ∷ text (codes "b") 1 ∷ [])
    × (pieces_of (codes "%%%>") ≡ text (codes "%") 1 ∷ text (codes "%>") 1 ∷ [])
    × (pieces_of (codes "%% >") ≡ text (codes "%% >") 1 ∷ [])
unfolding run tag front_at pieces_of
closers = (refl, refl, refl, refl)

-- `<%-` drops the blanks before it where nothing else stands before it on its line
indents : (pieces_of (32 ∷ 9 ∷ codes "<%- a %>") ≡ code (codes " a ") 1 ∷ [])
    × (pieces_of (codes "a" ++ 10 ∷ codes "  <%- b %>") ≡ text (codes "a" ++ 10 ∷ []) 1 ∷ code (codes " b ") 2 ∷ [])
    × (pieces_of (codes "a  <%- b %>") ≡ text (codes "a  ") 1 ∷ code (codes " b ") 1 ∷ [])
    × (pieces_of (codes "<% a %>  <%- b %>") ≡ code (codes " a ") 1 ∷ text (codes "  ") 1 ∷ code (codes " b ") 1 ∷ [])
    × (pieces_of (codes "<% a -%>" ++ 10 ∷ codes "  <%- b %>") ≡ code (codes " a ") 1 ∷ code (codes " b ") 2 ∷ [])
    × (pieces_of (codes "  <% a %>") ≡ text (codes "  ") 1 ∷ code (codes " a ") 1 ∷ [])
    × (pieces_of (codes "%%>  <%- a %>") ≡ text (codes "%>") 1 ∷ text (codes "  ") 1 ∷ code (codes " a ") 1 ∷ [])
unfolding run tag front_at pieces_of
indents = (refl, refl, refl, refl, refl, refl, refl)

-- `-%>` drops the blanks behind it, and one line break
breaks : (pieces_of (codes "<% a -%>" ++ 32 ∷ 9 ∷ 10 ∷ codes "b") ≡ code (codes " a ") 1 ∷ text (codes "b") 2 ∷ [])
    × (pieces_of (codes "<% a -%>" ++ 13 ∷ 10 ∷ codes "b") ≡ code (codes " a ") 1 ∷ text (codes "b") 2 ∷ [])
    × (pieces_of (codes "<% a -%>" ++ 13 ∷ codes "b") ≡ code (codes " a ") 1 ∷ text (13 ∷ codes "b") 1 ∷ [])
    × (pieces_of (codes "<% a -%>" ++ 10 ∷ 10 ∷ codes "b") ≡ code (codes " a ") 1 ∷ text (10 ∷ codes "b") 2 ∷ [])
    × (pieces_of (codes "<%= a -%>  b") ≡ value (codes " a ") 1 ∷ text (codes "b") 1 ∷ [])
    × (pieces_of (codes "<% a %>" ++ 10 ∷ codes "b") ≡ code (codes " a ") 1 ∷ text (10 ∷ codes "b") 1 ∷ [])
    × (pieces_of (codes "<%-%> a") ≡ code [] 1 ∷ text (codes " a") 1 ∷ [])
    × (pieces_of (codes "<%--%> a") ≡ code [] 1 ∷ text (codes "a") 1 ∷ [])
unfolding run tag front_at pieces_of
breaks = (refl, refl, refl, refl, refl, refl, refl, refl)

-- lines are counted through texts, tags and what is dropped
lines : (pieces_of (codes "a" ++ 10 ∷ codes "<%" ++ 10 ∷ codes "b%><%= c %>")
    ≡ text (codes "a" ++ 10 ∷ []) 1 ∷ code (10 ∷ codes "b") 2 ∷ value (codes " c ") 3 ∷ [])
    × (pieces_of (10 ∷ 10 ∷ codes "<%= a %>") ≡ text (10 ∷ 10 ∷ []) 1 ∷ value (codes " a ") 3 ∷ [])
unfolding run tag front_at pieces_of
lines = (refl, refl)

-- nothing ends a tag
unclosed_tags : (pieces_of (codes "<%") ≡ unclosed 1 ∷ [])
    × (pieces_of (codes "a" ++ 10 ∷ codes "<%= b" ++ 10 ∷ codes "% >")
    ≡ text (codes "a" ++ 10 ∷ []) 1 ∷ unclosed 2 ∷ [])
    × (pieces_of (codes "<%# a") ≡ unclosed 1 ∷ [])
    × (pieces_of (codes "<%->") ≡ unclosed 1 ∷ [])
    × (pieces_of (codes "<% a %> <%- b") ≡ code (codes " a ") 1 ∷ text (codes " ") 1 ∷ unclosed 1 ∷ [])
unfolding run tag front_at pieces_of
unclosed_tags = (refl, refl, refl, refl, refl)

-- parameters, and a lambda over three tags
a_list : pieces_of (codes "<%- | Array $xs | -%>" ++ 10 ∷ codes "<% $xs.each |$x| { -%>" ++ 10 ∷ codes "x <%= $x %>"
    ++ 10 ∷ codes "<% } -%>" ++ 10 ∷ [])
    ≡ code (codes " | Array $xs | ") 1 ∷ code (codes " $xs.each |$x| { ") 2 ∷ text (codes "x ") 3
    ∷ value (codes " $x ") 3 ∷ text (10 ∷ []) 3 ∷ code (codes " } ") 4 ∷ []
unfolding run tag front_at pieces_of
a_list = refl
