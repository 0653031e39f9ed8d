-- Templates, and what stands in them by the relation. Forms are mixed; each form by itself is shown in `epp_text`.
use Rattle.std.proofs.Common.{◌≡◌, ℕ, List, [], ◌∷◌, ◌++◌, refl}
use Rattle.std.specs.Prelude.{codes}
use Rattle.epp_text.specs.Pieces.{front_at, piece, pieces_of, run, tag}
use Rattle.epp_text.specs.Seen.{Piece}
use Rattle.epp_text.specs.declared.piece.PieceKind.TheVariants as kinds
use Rattle.epp_grammar.specs.Texts.{ArePieces}
use Rattle.epp_grammar.proofs.Whole.{pieces_are_read}

abbrev text : List ℕ → ℕ → Piece
text t line = piece kinds.Text t line

abbrev code : List ℕ → ℕ → Piece
code t line = piece kinds.Code t line

abbrev value : List ℕ → ℕ → Piece
value t line = piece kinds.Value t line

abbrev unclosed : ℕ → Piece
unclosed line = piece kinds.Unclosed [] line

stands : (z : List ℕ) (ps : List Piece) → pieces_of z ≡ ps → ArePieces z ps
stands z ps = (pieces_are_read z ps).0

-- `-%>` before `<%-`: with a line break between them both drop what is blank, and without one the first drops it
between : ArePieces (codes "<% a -%> " ++ 10 ∷ codes "  <%- b %>") (code (codes " a ") 1 ∷ code (codes " b ") 2 ∷ [])
    × ArePieces (codes "<% a -%>  <%- b %>") (code (codes " a ") 1 ∷ code (codes " b ") 1 ∷ [])
    × ArePieces (codes "<% a -%>" ++ 10 ∷ codes "x  <%- b %>")
    (code (codes " a ") 1 ∷ text (codes "x  ") 2 ∷ code (codes " b ") 2 ∷ [])
    × ArePieces (codes "<% a %>  <%- b %>") (code (codes " a ") 1 ∷ text (codes "  ") 1 ∷ code (codes " b ") 1 ∷ [])
unfolding run tag front_at pieces_of
between = (stands _ _ refl, stands _ _ refl, stands _ _ refl, stands _ _ refl)

-- a comment begins and ends as a code does, also where it drops what is blank; a line begins behind it, or not
comments : ArePieces (codes "x <%# c -%>" ++ 10 ∷ codes "  <%- b %>") (text (codes "x ") 1 ∷ code (codes " b ") 2 ∷ [])
    × ArePieces (codes "<%# c %>  <%- b %>") (text (codes "  ") 1 ∷ code (codes " b ") 1 ∷ [])
    × ArePieces (codes "<%#-%>" ++ 10 ∷ []) []
unfolding run tag front_at pieces_of
comments = (stands _ _ refl, stands _ _ refl, stands _ _ refl)

-- `<%%` and `%%>` are texts outside of tags alone: within one `<%%` is code, and `%%>` ends it
escaped : ArePieces (codes "<%= '<%%' %>") (value (codes " '<%%' ") 1 ∷ [])
    × ArePieces (codes "<% a %%> b %%> c") (code (codes " a %") 1 ∷ text (codes " b ") 1 ∷ text (codes "%>") 1
    ∷ text (codes " c") 1 ∷ [])
    × ArePieces (codes "  <%%- a %>") (text (codes "  ") 1 ∷ text (codes "<%") 1 ∷ text (codes "- a %>") 1 ∷ [])
    × ArePieces (codes "<%%%>") (text (codes "<%") 1 ∷ text (codes "%>") 1 ∷ [])
unfolding run tag front_at pieces_of
escaped = (stands _ _ refl, stands _ _ refl, stands _ _ refl, stands _ _ refl)

-- a tag that nothing ends, behind others
unclosed_tags : ArePieces (codes "<%%= x" ++ 10 ∷ codes "<%= y % >")
    (text (codes "<%") 1 ∷ text (codes "= x" ++ 10 ∷ []) 1 ∷ unclosed 2 ∷ [])
    × ArePieces (codes "<% a -%>" ++ 10 ∷ codes "  <%-") (code (codes " a ") 1 ∷ unclosed 2 ∷ [])
    × ArePieces (codes "<%# a <% b") (unclosed 1 ∷ [])
unfolding run tag front_at pieces_of
unclosed_tags = (stands _ _ refl, stands _ _ refl, stands _ _ refl)
