-- What a text is read as, from its first line on.
use Rattle.std.proofs.Common.{◌≡◌, ℕ, ◌+◌, ◌==◌, Bool, true, false, if◌then◌else◌, List, [], ◌∷◌, ◌++◌, append_assoc, append-nil, length, ◌<◌, arith, length-append, Option, Some, None, option_map, option_and_then, Result, Ok, Err, refl, sym, ap, subst, ◌∙◌}
use Rattle.std.proofs.lemmas.Bool.{eqb-true}
use Rattle.site_core.specs.Events.{Event, opens}
use Rattle.json_documents.specs.LineDocuments.{split_lines, with_byte, result_map, if_line, line_and_next, lines_read}
use Rattle.json_documents.specs.LinesOfText.{cut_line}
use Rattle.json_documents.specs.declared.doc_stop.DocStop.{DocStop}
use Rattle.json_documents.specs.declared.doc_stop.DocStop.TheVariants as stop
use Rattle.json_documents.proofs.Cutting.{IsCut, is_cut}
use Rattle.site_bundle.specs.SiteView.{SiteView}
use Rattle.journal_reading.specs.JournalLines.{Progress, nothing, entries, all as finished, JournalLine, opening, later, last, next_of, journal_table, opening_in, entry_in, is_last, line_in, with_line, events_in, entries_from, journal_read, Gives}

abbrev Events : Type 0
Events = List (Event SiteView)

-- ---- the first line of a text and the others

abbrev parted : List ℕ → Option (List ℕ × List ℕ) → List (List ℕ) × List ℕ
parted text None = ([], text)
parted text (Some p) = (p.0 ∷ (split_lines p.1).0, (split_lines p.1).1)

one_byte_more : (b : ℕ) (bs : List ℕ) (o : Option (List ℕ × List ℕ)) →
    with_byte b (parted bs o) ≡ parted (b ∷ bs) (option_map (λ p. (b ∷ p.0, p.1)) o)
one_byte_more b bs None = refl
one_byte_more b bs (Some p) = refl

split_by_cut : (text : List ℕ) → split_lines text ≡ parted text (cut_line text)
unfolding split_lines
split_by_cut [] = refl
split_by_cut (b ∷ bs) =
    elim (b == 10) as (λ t. (if t then ([] ∷ (split_lines bs).0, (split_lines bs).1) else with_byte b (split_lines bs))
    ≡ parted (b ∷ bs) (if t then Some ([], bs) else option_map (λ p. (b ∷ p.0, p.1)) (cut_line bs))) [
      | true ↦ refl
      | false ↦ ap (with_byte b) (split_by_cut bs) ∙ one_byte_more b bs (cut_line bs)
    ]

-- ---- the lines one after another

abbrev read_parted : Progress → ℕ → List (List ℕ) × List ℕ → Result Events ℕ
read_parted p n s = result_map events_in (lines_read journal_table line_in s.1 s.0 p n)

from_cut : (p : Progress) (n : ℕ) (text : List ℕ) → entries_from p n text ≡ read_parted p n (parted text (cut_line text))
unfolding entries_from
from_cut p n text = ap (read_parted p n) (split_by_cut text)

cut_so : (p : Progress) (n : ℕ) (text : List ℕ) (o : Option (List ℕ × List ℕ)) → cut_line text ≡ o →
    entries_from p n text ≡ read_parted p n (parted text o)
cut_so p n text o e = from_cut p n text ∙ ap (λ c. read_parted p n (parted text c)) e

unended : (first : Bool) (n m : ℕ) (text : List ℕ) → read_parted (entries first n) m ([], text) ≡ Err (m + 1)
unfolding lines_read
unended first n m [] = refl
unended first n m (b ∷ bs) = refl

-- there is no whole line any more
pub no_line : (first : Bool) (n m : ℕ) (text : List ℕ) → None ≡ cut_line text → entries_from (entries first n) m text ≡ Err (m + 1)
no_line first n m text e = cut_so (entries first n) m text None (sym e) ∙ unended first n m text

nothing_ended : (text : List ℕ) → read_parted nothing 0 ([], text) ≡ Err 1
unfolding lines_read
nothing_ended [] = refl
nothing_ended (b ∷ bs) = refl

pub no_first_line : (text : List ℕ) → None ≡ cut_line text → journal_read text ≡ Err 1
no_first_line text e = cut_so nothing 0 text None (sym e) ∙ nothing_ended text

mapped : (l : JournalLine) (r : Result (List JournalLine) ℕ) →
    result_map events_in (result_map (λ ls. l ∷ ls) r) ≡ result_map (with_line l) (result_map events_in r)
mapped l (Ok ls) = refl
mapped l (Err n) = refl

-- a line, and what it is
one_line : (p : Progress) (n : ℕ) (text line after : List ℕ) → Some (line, after) ≡ cut_line text →
    entries_from p n text ≡ result_map events_in (if_line journal_table line_in
    (λ t. lines_read journal_table line_in (split_lines after).1 (split_lines after).0 t (n + 1)) n
    (line_and_next journal_table line_in p line))
unfolding lines_read
one_line p n text line after e = cut_so p n text (Some (line, after)) (sym e)

bad_line : (p : Progress) (n : ℕ) (text line after : List ℕ) → Some (line, after) ≡ cut_line text → line_in p line ≡ None →
    entries_from p n text ≡ Err (n + 1)
bad_line p n text line after e bad =
    one_line p n text line after e
    ∙ ap (λ o. result_map events_in (if_line journal_table line_in
    (λ t. lines_read journal_table line_in (split_lines after).1 (split_lines after).0 t (n + 1)) n
    (option_and_then (λ l. option_map (λ t. (l, t)) (next_of p l)) o))) bad

next_line : (p q : Progress) (n : ℕ) (text line after : List ℕ) (l : JournalLine) → Some (line, after) ≡ cut_line text →
    line_in p line ≡ Some l → next_of p l ≡ Some q →
    entries_from p n text ≡ result_map (with_line l) (entries_from q (n + 1) after)
unfolding entries_from
next_line p q n text line after l e is goes =
    one_line p n text line after e
    ∙ ap (λ o. result_map events_in (if_line journal_table line_in
    (λ t. lines_read journal_table line_in (split_lines after).1 (split_lines after).0 t (n + 1)) n
    (option_and_then (λ k. option_map (λ t. (k, t)) (next_of p k)) o))) is
    ∙ ap (λ o. result_map events_in (if_line journal_table line_in
    (λ t. lines_read journal_table line_in (split_lines after).1 (split_lines after).0 t (n + 1)) n
    (option_map (λ t. (l, t)) o))) goes
    ∙ mapped l (lines_read journal_table line_in (split_lines after).1 (split_lines after).0 q (n + 1))

-- ---- what stands behind the last line

ended_by : (m b : ℕ) (bs : List ℕ) (o : Option (List ℕ × List ℕ)) → read_parted finished m (parted (b ∷ bs) o) ≡ Err (m + 1)
unfolding lines_read
ended_by m b bs None = refl
ended_by m b bs (Some p) = refl

pub at_the_end : (m : ℕ) → entries_from finished m [] ≡ Ok []
unfolding entries_from lines_read split_lines
at_the_end m = refl

pub past_the_end : (m b : ℕ) (bs : List ℕ) → entries_from finished m (b ∷ bs) ≡ Err (m + 1)
past_the_end m b bs = from_cut finished m (b ∷ bs) ∙ ended_by m b bs (cut_line (b ∷ bs))

-- ---- the steps of the reader

pub bad_opening : (text line after : List ℕ) → Some (line, after) ≡ cut_line text → None ≡ opening_in line →
    journal_read text ≡ Err 1
bad_opening text line after e bad =
    bad_line nothing 0 text line after e (ap (option_map (λ p. opening p.0 p.1)) (sym bad))

pub opened : (text line after : List ℕ) (first : Bool) (s : SiteView) → Some (line, after) ≡ cut_line text →
    Some (first, s) ≡ opening_in line →
    journal_read text ≡ result_map (λ es. opens s ∷ es) (entries_from (entries first 1) 1 after)
opened text line after first s e is =
    next_line nothing (entries first 1) 0 text line after (opening first s) e
    (ap (option_map (λ p. opening p.0 p.1)) (sym is)) refl

pub bad_entry : (first : Bool) (n : ℕ) (text line after : List ℕ) → Some (line, after) ≡ cut_line text →
    is_last n line ≡ false → None ≡ entry_in first n line → entries_from (entries first n) n text ≡ Err (n + 1)
bad_entry first n text line after e other bad =
    bad_line (entries first n) n text line after e
    (ap (λ b. if b then Some last else option_map later (entry_in first n line)) other ∙ ap (option_map later) (sym bad))

pub one_entry : (first : Bool) (n : ℕ) (text line after : List ℕ) (x : Event SiteView) → Some (line, after) ≡ cut_line text →
    is_last n line ≡ false → Some x ≡ entry_in first n line →
    entries_from (entries first n) n text ≡ result_map (λ es. x ∷ es) (entries_from (entries first (n + 1)) (n + 1) after)
one_entry first n text line after x e other is =
    next_line (entries first n) (entries first (n + 1)) n text line after (later x) e
    (ap (λ b. if b then Some last else option_map later (entry_in first n line)) other ∙ ap (option_map later) (sym is)) refl

pub last_one : (first : Bool) (n : ℕ) (text line after : List ℕ) → Some (line, after) ≡ cut_line text →
    is_last n line ≡ true → entries_from (entries first n) n text ≡ result_map (λ es. es) (entries_from finished (n + 1) after)
last_one first n text line after e is =
    next_line (entries first n) finished n text line after last e
    (ap (λ b. if b then Some last else option_map later (entry_in first n line)) is) refl

-- ---- behind entries that were read already

abbrev pub behind : Events → Result Events ℕ → Result Events ℕ
behind es r = result_map (λ more. es ++ more) r

pub gives_same : {A : Type 0} (shown : A → Events) (r : Result A DocStop) (m n : Result Events ℕ) → n ≡ m → Gives shown r m →
    Gives shown r n
gives_same shown (Ok a) m n e h = e ∙ h
gives_same shown (Err (stop.Bad k)) m n e h = e ∙ h
gives_same shown (Err stop.Memory) m n e h = tt

one_behind : (es : Events) (x : Event SiteView) (r : Result Events ℕ) →
    behind (es ++ x ∷ []) r ≡ behind es (result_map (λ more. x ∷ more) r)
one_behind es x (Ok more) = ap Ok (append_assoc es (x ∷ []) more)
one_behind es x (Err n) = refl

pub one_entry_behind : (es new : Events) (first : Bool) (n : ℕ) (text line after : List ℕ) (x : Event SiteView) →
    Some (line, after) ≡ cut_line text → is_last n line ≡ false → Some x ≡ entry_in first n line → new ≡ es ++ x ∷ [] →
    behind new (entries_from (entries first (n + 1)) (n + 1) after) ≡ behind es (entries_from (entries first n) n text)
one_entry_behind es new first n text line after x e other is added =
    ap (λ ys. behind ys (entries_from (entries first (n + 1)) (n + 1) after)) added
    ∙ one_behind es x (entries_from (entries first (n + 1)) (n + 1) after)
    ∙ ap (behind es) (sym (one_entry first n text line after x e other is))

same_all : (es : Events) (r : Result Events ℕ) → behind es (result_map (λ more. more) r) ≡ behind es r
same_all es (Ok more) = refl
same_all es (Err n) = refl

pub last_behind : (es : Events) (first : Bool) (n : ℕ) (text line after : List ℕ) → Some (line, after) ≡ cut_line text →
    is_last n line ≡ true → behind es (entries_from (entries first n) n text) ≡ behind es (entries_from finished (n + 1) after)
last_behind es first n text line after e is =
    ap (behind es) (last_one first n text line after e is) ∙ same_all es (entries_from finished (n + 1) after)

pub ended_well : (es : Events) (m : ℕ) (after : List ℕ) (b : Bool) → b ≡ (length after == 0) → b ≡ true →
    behind es (entries_from finished m after) ≡ Ok es
ended_well es m [] b e h = ap (behind es) (at_the_end m) ∙ ap Ok (append-nil es)
ended_well es m (x ∷ xs) b e h =
    let none : length (x ∷ xs) ≡ 0 = eqb-true (length (x ∷ xs)) 0 (sym e ∙ h) in absurd (omega (arith, none))

pub ended_badly : (es : Events) (m : ℕ) (after : List ℕ) (b : Bool) → b ≡ (length after == 0) → b ≡ false →
    behind es (entries_from finished m after) ≡ Err (m + 1)
ended_badly es m [] b e h = absurd (true_false (sym e ∙ h))
  where
    true_false : true ≡ false → ⊥
    true_false z = cc
ended_badly es m (x ∷ xs) b e h = ap (behind es) (past_the_end m x xs)

one_behind_opening : (s : SiteView) (r : Result Events ℕ) → result_map (λ es. opens s ∷ es) r ≡ behind (opens s ∷ []) r
one_behind_opening s (Ok es) = refl
one_behind_opening s (Err n) = refl

pub opened_behind : (text line after : List ℕ) (first : Bool) (s : SiteView) (es : Events) → Some (line, after) ≡ cut_line text →
    Some (first, s) ≡ opening_in line → es ≡ opens s ∷ [] →
    journal_read text ≡ behind es (entries_from (entries first 1) 1 after)
opened_behind text line after first s es e is made =
    opened text line after first s e is ∙ one_behind_opening s (entries_from (entries first 1) 1 after)
    ∙ ap (λ ys. behind ys (entries_from (entries first 1) 1 after)) (sym made)

-- the line and what stands behind it are shorter than the text
parts_of : (text line after : List ℕ) → Some (line, after) ≡ cut_line text → text ≡ line ++ 10 ∷ after
parts_of text line after e = (subst (IsCut 10 text) (sym e) (is_cut 10 text)).0

pub shorter : (text line after : List ℕ) → Some (line, after) ≡ cut_line text → length after < length text
shorter text line after e =
    omega (arith, ap length (parts_of text line after e), length-append line (10 ∷ after))

pub line_shorter : (text line after : List ℕ) → Some (line, after) ≡ cut_line text → length line < length text
line_shorter text line after e =
    omega (arith, ap length (parts_of text line after e), length-append line (10 ∷ after))

-- one entry more, whose line this is
pub one_more_behind : (es new : Events) (first : Bool) (n k : ℕ) (text line after : List ℕ) (x : Event SiteView) → k ≡ n + 1 →
    Some (line, after) ≡ cut_line text → is_last n line ≡ false → Some x ≡ entry_in first n line → new ≡ es ++ x ∷ [] →
    behind new (entries_from (entries first k) k after) ≡ behind es (entries_from (entries first n) n text)
one_more_behind es new first n k text line after x next e other is added =
    ap (λ j. behind new (entries_from (entries first j) j after)) next
    ∙ one_entry_behind es new first n text line after x e other is added
