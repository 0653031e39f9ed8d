-- How the lines of a journal are read: one after another, each by a comparison with the line that would be written.
use Rattle.std.specs.Prelude.{◌≡◌, ⊤, ℕ, ◌+◌, ◌^◌, ◌<◌, ◌==◌, nat_lt, Bool, true, false, not, ◌&&◌, if◌then◌else◌}
use Rattle.std.specs.Prelude.{codes, List, [], ◌∷◌, Option, Some, None, option_map, option_and_then, Result, Ok}
use Rattle.std.specs.Prelude.{Err}
use Rattle.std.specs.Str.{bytes_eq}
use Rattle.serde_json.specs.Data.{Data}
use Rattle.serde_json.specs.Find.{get, as_number, as_u64}
use Rattle.serde_json.specs.Read.{read}
use Rattle.serde_json.specs.Written.{compact_text}
use Rattle.site_core.specs.Events.{Event, opens, is_opening}
use Rattle.json_documents.specs.LineDocuments.{LineTable, result_map, read_lines}
use Rattle.json_documents.specs.declared.doc_stop.DocStop.{DocStop}
use Rattle.json_documents.specs.declared.doc_stop.DocStop.TheVariants as stop
use Rattle.site_bundle.specs.SiteView.{SiteView}
use Rattle.site_docs.specs.SiteText.{site_data}
use Rattle.site_docs.specs.JournalText.{opening_object, count_object, entry_data}
use Rattle.journal_reading.specs.Journals.{IsSite, IsEntry, IsShallow, first_object, is_filing}
use Rattle.journal_reading.specs.EntryReading.{entry_said}
use Rattle.journal_reading.specs.SiteReading.{site_said}

-- what was read so far
pub data Progress : Type 0 where
  nothing : Progress
  -- so many entries, in the first version or in the second
  entries : Bool → ℕ → Progress
  -- and the last line
  all : Progress

pub data JournalLine : Type 0 where
  opening : Bool → SiteView → JournalLine
  later : Event SiteView → JournalLine
  last : JournalLine

-- ---- which lines may come, and how each is written

abbrev pub opening_data : Bool → SiteView → Data
opening_data first s = if first then first_object (site_data s) else opening_object 0 (site_data s)

-- the entry may stand behind others in this version
abbrev pub may_stand : Bool → Event SiteView → Bool
may_stand first e = not (is_opening e) && not (first && is_filing e)

abbrev pub next_of : Progress → JournalLine → Option Progress
next_of nothing (opening first s) = Some (entries first 1)
next_of nothing (later e) = None
next_of nothing last = None
next_of (entries first n) (opening again s) = None
next_of (entries first n) (later e) = Some (entries first (n + 1))
next_of (entries first n) last = Some all
next_of all l = None

abbrev pub ends_at : Progress → Bool
ends_at nothing = false
ends_at (entries first n) = false
ends_at all = true

abbrev pub text_at : Progress → JournalLine → List ℕ
text_at nothing (opening first s) = compact_text (opening_data first s)
text_at nothing (later e) = []
text_at nothing last = []
text_at (entries first n) (opening again s) = []
text_at (entries first n) (later e) = compact_text (entry_data n e)
text_at (entries first n) last = compact_text (count_object n)
text_at all l = []

abbrev pub FitsAt : Progress → JournalLine → Type 0
FitsAt nothing (opening first s) = IsSite s × IsShallow (opens s)
FitsAt nothing (later e) = ⊥
FitsAt nothing last = ⊥
FitsAt (entries first n) (opening again s) = ⊥
FitsAt (entries first n) (later e) = IsEntry e × IsShallow e × (may_stand first e ≡ true) × (n + 1 < 2 ^ 64)
FitsAt (entries first n) last = n < 2 ^ 64
FitsAt all l = ⊥

abbrev pub journal_table : LineTable Progress JournalLine
journal_table = record { next = next_of; ends = ends_at; text = text_at; Fits = FitsAt }

-- ---- which line a text is

abbrev pub is_one : Option ℕ → Bool
is_one None = false
is_one (Some n) = n == 1

-- the version is the first one
unfoldable pub says_first : Data → Bool
says_first d = is_one (option_and_then as_u64 (option_and_then as_number (get (codes "journal") d)))

abbrev pub if_opening : List ℕ → Bool → SiteView → Option (Bool × SiteView)
if_opening line first s = if bytes_eq (compact_text (opening_data first s)) line then Some (first, s) else None

abbrev pub opening_said : List ℕ → Data → Option (Bool × SiteView)
opening_said line d =
    option_and_then (if_opening line (says_first d)) (option_and_then site_said (get (codes "site") d))

abbrev pub opening_in : List ℕ → Option (Bool × SiteView)
opening_in line = option_and_then (opening_said line) (read line)

-- a second spelling is refused, and so is what the first version knows nothing of
abbrev pub is_written : Bool → ℕ → List ℕ → Event SiteView → Bool
is_written first n line e =
    nat_lt (n + 1) (2 ^ 64) && (may_stand first e && bytes_eq (compact_text (entry_data n e)) line)

abbrev pub if_written : Bool → ℕ → List ℕ → Event SiteView → Option (Event SiteView)
if_written first n line e = if is_written first n line e then Some e else None

abbrev pub entry_written : Bool → ℕ → List ℕ → Data → Option (Event SiteView)
entry_written first n line d = option_and_then (if_written first n line) (entry_said n line d)

abbrev pub entry_in : Bool → ℕ → List ℕ → Option (Event SiteView)
entry_in first n line = option_and_then (entry_written first n line) (read line)

-- the last line behind n entries
abbrev pub is_last : ℕ → List ℕ → Bool
is_last n line = nat_lt n (2 ^ 64) && bytes_eq (compact_text (count_object n)) line

abbrev pub line_in : Progress → List ℕ → Option JournalLine
line_in nothing line = option_map (λ p. opening p.0 p.1) (opening_in line)
line_in (entries first n) line = if is_last n line then Some last else option_map later (entry_in first n line)
line_in all line = None

-- ---- what a text is read as

abbrev pub with_line : JournalLine → List (Event SiteView) → List (Event SiteView)
with_line (opening first s) es = opens s ∷ es
with_line (later e) es = e ∷ es
with_line last es = es

abbrev pub events_in : List JournalLine → List (Event SiteView)
events_in [] = []
events_in (l ∷ ls) = with_line l (events_in ls)

-- the entries of a text of which so much was read, in n lines, or the number of the first bad line
unfoldable pub entries_from : Progress → ℕ → List ℕ → Result (List (Event SiteView)) ℕ
entries_from p n text = result_map events_in (read_lines journal_table line_in p n text)

-- the entries whose journal the text is
abbrev pub journal_read : List ℕ → Result (List (Event SiteView)) ℕ
journal_read text = entries_from nothing 0 text

-- exactly what is meant, where a value shows entries, unless memory ran out
abbrev pub Gives : {A : Type 0} → (A → List (Event SiteView)) → Result A DocStop → Result (List (Event SiteView)) ℕ →
    Type 0
Gives shown (Ok a) meant = meant ≡ Ok (shown a)
Gives shown (Err (stop.Bad n)) meant = meant ≡ Err n
Gives shown (Err stop.Memory) meant = ⊤
