-- What a template is made of: text, and what stands in its tags. A text is the list of its bytes.
use Rattle.std.specs.Prelude.{ℕ, zero, suc, ◌+◌, ◌-◌, Bool, true, false, ◌&&◌, ◌||◌, if◌then◌else◌, ◌==◌, nat_lt}
use Rattle.std.specs.Prelude.{List, [], ◌∷◌, ◌++◌, take, drop, length, slice_index, slice_range, Option, None, Some}
use Rattle.std.specs.List.{prefix_len}
use Rattle.epp_text.specs.Seen.{Piece}
use Rattle.epp_text.specs.declared.front.Front.{Front}
use Rattle.epp_text.specs.declared.piece.PieceKind.{PieceKind}
use Rattle.epp_text.specs.declared.piece.PieceKind.TheVariants as kinds

-- ---- marks

-- `<%`
abbrev pub opens : List ℕ → Bool
opens z = slice_index z 0 == 60 && slice_index z 1 == 37

-- `%>`
abbrev pub closes : List ℕ → Bool
closes z = slice_index z 0 == 37 && slice_index z 1 == 62

-- `<%%`, which is the text `<%`
abbrev pub writes_opener : List ℕ → Bool
writes_opener z = opens z && slice_index z 2 == 37

-- `%%>`, which is the text `%>`
abbrev pub writes_closer : List ℕ → Bool
writes_closer z = slice_index z 0 == 37 && closes (drop 1 z)

-- a space or a tab
abbrev pub is_blank : ℕ → Bool
is_blank b = b == 32 || b == 9

-- a line break at the front of a text: its length, or 0
abbrev pub break_len : List ℕ → ℕ
break_len z = if slice_index z 0 == 10 then 1 else (if slice_index z 0 == 13 && slice_index z 1 == 10 then 2 else 0)

-- ---- what stands at a place

-- its kind, or none for a comment; where its text begins and ends; its length; whether a line begins behind it
abbrev pub front : Option PieceKind → ℕ → ℕ → ℕ → Bool → Front
front kind from to len begins = record { kind = kind; from = from; to = to; len = len; begins = begins }

-- ---- text

-- the place where a run of text ends: before a tag, `<%%` or `%%>`
abbrev pub run_end : ℕ → List ℕ → ℕ
run_end at [] = at
run_end at (b ∷ z) = if opens (b ∷ z) || writes_closer (b ∷ z) then at else run_end (at + 1) z

-- the length of a run that begins here
abbrev pub run_len : List ℕ → ℕ
run_len z = run_end 1 (drop 1 z)

-- the place behind the last byte that is no blank
abbrev pub kept_from : ℕ → ℕ → List ℕ → ℕ
kept_from kept at [] = kept
kept_from kept at (b ∷ z) = kept_from (if is_blank b then kept else at + 1) (at + 1) z

-- A text without the blanks at its end, where nothing else stands before them on their line. The flag says that the
-- text begins a line.
abbrev pub indent_from : Bool → List ℕ → ℕ
indent_from begins text =
    let kept = kept_from 0 0 text in
    if kept == 0 then (if begins then 0 else length text)
    else (if slice_index text (kept - 1) == 10 then kept else length text)

-- `<%-` drops the blanks before it
abbrev pub drops_indent : List ℕ → Bool
drops_indent z = opens z && slice_index z 2 == 45

abbrev pub run_to : Bool → List ℕ → ℕ → ℕ
run_to begins z len = if drops_indent (drop len z) then indent_from begins (take len z) else len

-- a run of text
unfoldable pub run : Bool → List ℕ → Front
run begins z = let len = run_len z in front (Some kinds.Text) 0 (run_to begins z len) len false

-- ---- tags

-- `<%=` emits a value, and `<%#` is a comment
abbrev pub tag_kind : ℕ → Option PieceKind
tag_kind b = if b == 61 then Some kinds.Value else (if b == 35 then None else Some kinds.Code)

-- `<%=`, `<%#` and `<%-` are longer than `<%`
abbrev pub opener_len : ℕ → ℕ
opener_len b = if b == 61 || b == 35 || b == 45 then 3 else 2

-- the place of the first `%>`
abbrev pub close_from : ℕ → List ℕ → Option ℕ
close_from at [] = None
close_from at (b ∷ z) = if closes (b ∷ z) then Some at else close_from (at + 1) z

-- blanks, and one line break behind them
abbrev pub blanks_len : List ℕ → ℕ
blanks_len z = prefix_len is_blank z

abbrev pub dropped_len : List ℕ → ℕ
dropped_len z = blanks_len z + break_len (drop (blanks_len z) z)

abbrev pub drops_break : List ℕ → Bool
drops_break z = nat_lt 0 (break_len (drop (blanks_len z) z))

-- A tag whose text stands between these places. Where `-` stands before `%>`, what is blank behind it is dropped.
abbrev pub ended : Bool → Option PieceKind → ℕ → ℕ → List ℕ → Front
ended false kind from end z = front kind from end (end + 2) false
ended true kind from end z =
    let behind = drop (end + 2) z in
    front kind from (end - 1) (end + 2 + dropped_len behind) (drops_break behind)

-- a tag that nothing ends goes on to the end
abbrev pub tag_by : Option PieceKind → ℕ → Option ℕ → List ℕ → Front
tag_by kind from None z = front (Some kinds.Unclosed) 0 0 (length z) false
tag_by kind from (Some end) z = ended (nat_lt from end && slice_index z (end - 1) == 45) kind from end z

unfoldable pub tag : List ℕ → Front
tag z =
    let from = opener_len (slice_index z 2) in
    tag_by (tag_kind (slice_index z 2)) from (close_from from (drop from z)) z

-- ---- the pieces of a text

unfoldable pub front_at : Bool → List ℕ → Front
front_at begins z =
    if writes_opener z then front (Some kinds.Text) 0 2 3 false
    else (if writes_closer z then front (Some kinds.Text) 1 3 3 false
    else (if opens z then tag z else run begins z))

abbrev pub piece : PieceKind → List ℕ → ℕ → Piece
piece kind text line = record { kind = kind; text = text; line = line }

-- a text that is empty is no piece
abbrev pub text_piece : List ℕ → ℕ → List Piece
text_piece [] line = []
text_piece (b ∷ z) line = piece kinds.Text (b ∷ z) line ∷ []

-- what stands at a place gives one piece at most; a comment gives none
abbrev pub given : Option PieceKind → List ℕ → ℕ → List Piece
given None text line = []
given (Some kinds.Text) text line = text_piece text line
given (Some kind) text line = piece kind text line ∷ []

abbrev pub given_at : Front → List ℕ → ℕ → List Piece
given_at f z line = given f.kind (slice_range z f.from f.to) line

-- a line feed ends a line
abbrev pub line_after : ℕ → ℕ → ℕ
line_after line b = if b == 10 then line + 1 else line

-- the line behind a text that begins on this line
abbrev pub line_behind : ℕ → List ℕ → ℕ
line_behind line [] = line
line_behind line (b ∷ z) = line_behind (line_after line b) z

-- The pieces from a place on, by its line and whether a line begins there. The number counts the bytes that are left of
-- what stands before.
abbrev pub pieces_from : ℕ → Bool → ℕ → List ℕ → List Piece
pieces_from line begins left [] = []
pieces_from line begins (suc left) (b ∷ z) = pieces_from (line_after line b) begins left z
pieces_from line begins zero (b ∷ z) =
    let f = front_at begins (b ∷ z) in
    given_at f (b ∷ z) line ++ pieces_from (line_after line b) f.begins (f.len - 1) z

unfoldable pub pieces_of : List ℕ → List Piece
pieces_of = pieces_from 1 true 0
