-- What a command reads, what it has then, and what stands in the way.
use Rattle.std.specs.Prelude.{◌≡◌, ◌⊎◌, ℕ, ◌+◌, ◌≤◌, ◌<◌, Bool, nat_eq, List, ◌++◌, length, min, take, codes, decimal}
use Rattle.std.specs.Prelude.{Option, None, Some, Result, Ok, Err}
use Rattle.std.specs.List.{count_by}
use Rattle.std.specs.Str.{IsUtf8, IsValidUpTo}
use Rattle.json_documents.specs.LinesOfText.{IsFirstBad}
use Rattle.journal_reading.specs.Journals.{IsJournalText}
use Rattle.pp_values.specs.declared.place.TheConstants.{MAIN_MANIFEST}
use Rattle.res_core.specs.Asked as requests
use Rattle.site_bundle.specs.Bundles.{bundle_of}
use Rattle.site_bundle.specs.FolderSites.{site_walk}
use Rattle.site_bundle.specs.Refusals.{Refuses, stop_line}
use Rattle.site_bundle.specs.SiteView.{SiteView}
use Rattle.site_bundle.specs.Walks.{Goes}
use Rattle.site_bundle.specs.declared.bundle.Bundle.{Bundle}
use Rattle.site_bundle.specs.declared.bundle_stop.BundleStop.{BundleStop}
use Rattle.site_bundle.specs.declared.bundle_stop.BundleStop.TheVariants as b
use Rattle.site_bundle.specs.declared.limits.TheConstants.{MOST_BUNDLE_BYTES, MOST_FILE_BYTES}
use Rattle.site_core.specs.Events.{Event}
use Rattle.site_core.specs.declared.history.History.{History}
use Rattle.site_core.specs.declared.history.TheConstants.{MOST_ENTRIES}
use Rattle.site_io.specs.Folders.{Folder}
use Rattle.site_io.specs.Stream.{Stream}
use Rattle.site_io.specs.Transfer.{HasReadAll, StopsBy}
use Rattle.site_io.specs.declared.transfer.ReadStop.TheVariants as r
use Rattle.site_words.specs.Asked as a
use Rattle.site_words.specs.Asked.{Asked}
use Rattle.site_commands.specs.JournalParts.{journal_part, requests_said}
use Rattle.site_commands.specs.declared.asking_input.Asking.{Asking}
use Rattle.site_commands.specs.declared.ending.Ending.{Ending}
use Rattle.site_commands.specs.declared.ending.Ending.TheVariants as e
use Rattle.site_commands.specs.declared.input.InputStop.{InputStop}
use Rattle.site_commands.specs.declared.input.InputStop.TheVariants as i

-- ---- from where

pub data Reading : Type 0 where
  nothing : Reading
  -- a manifest, from the source
  manifest : Reading
  -- a bundle, from the source
  bundle : Reading
  -- the site of the folder at this path
  folder : List ℕ → Reading
  -- a journal, from the source
  journal : Reading
  -- a journal and the requests behind it, from the source
  resuming : Reading

-- from the folder that is named, or else from the source
abbrev pub site_from : Option (List ℕ) → Reading
site_from None = bundle
site_from (Some dir) = folder dir

abbrev pub reading_of : Asked → Reading
reading_of (a.manifest node) = manifest
reading_of (a.check dir) = site_from dir
reading_of (a.compile node dir) = site_from dir
reading_of a.sequence = bundle
reading_of (a.lookup node key merge dir) = site_from dir
reading_of (a.apply node dir workers) = site_from dir
reading_of (a.demo nodes) = nothing
reading_of (a.batch workers) = bundle
reading_of (a.serve port count dir) = folder dir
reading_of (a.serve_on port count) = journal
reading_of a.audit = journal
reading_of a.migrate = journal
reading_of (a.resume workers) = resuming
reading_of (a.settle rounds workers) = bundle
reading_of a.refused = nothing
reading_of (a.bad_word word) = nothing

-- ---- what was read

pub data Input : Type 0 where
  none : Input
  -- the bytes of a manifest
  bytes : List ℕ → Input
  -- what a bundle says, or a folder
  site : Bundle → Input
  -- the entries of a journal
  history : List (Event SiteView) → Input
  -- and what is asked behind it
  asking : List (Event SiteView) → List requests.Asked → Input

-- ---- journals

-- the bytes are the journal of these entries, in either version
pub record IsWritten (h : List (Event SiteView)) (said : List ℕ) : Type 0 where
  pub text : IsUtf8 said
  pub journal : IsJournalText h said

-- and they are no more than a history may have
abbrev pub IsJournal : List (Event SiteView) → List ℕ → Type 0
IsJournal h said = IsWritten h said × (length h ≤ MOST_ENTRIES)

abbrev pub IsTooLong : List (Event SiteView) → List ℕ → Type 0
IsTooLong h said = IsWritten h said × (MOST_ENTRIES < length h)

abbrev pub is_feed : ℕ → Bool
is_feed b = nat_eq b 10

-- the number of the line behind these bytes, counted from 1
abbrev pub line_behind : List ℕ → ℕ
line_behind said = count_by is_feed said + 1

-- line n is the first up to which a text begins as no journal does
abbrev pub IsBadOfText : ℕ → List ℕ → Type 0
IsBadOfText n text = IsFirstBad (λ (h : History SiteView). IsJournalText h.entries) n text

-- Behind this text stands a byte that is none. Its line is bad, unless a line before it is.
abbrev pub BreaksBehind : ℕ → List ℕ → Type 0
BreaksBehind n text =
    ((h : List (Event SiteView)) × IsJournalText h text × (n ≡ line_behind text))
    ⊎ ((k : ℕ) × IsBadOfText k text × (n ≡ min k (line_behind text)))

-- the first line that is not as journals have it, for its bytes are no text or no line of one
abbrev pub IsBadLine : ℕ → List ℕ → Type 0
IsBadLine n said =
    (IsUtf8 said × IsBadOfText n said) ⊎ ((m : ℕ) × (IsValidUpTo said m × BreaksBehind n (take m said)))

-- what the bytes of a source say
abbrev pub IsSaidBy : Reading → Input → List ℕ → Type 0
IsSaidBy journal (history h) said = IsJournal h said
IsSaidBy resuming (asking h asked) said = IsJournal h (journal_part said) × (requests_said said ≡ Ok asked)
IsSaidBy reading input said = ⊥

-- the source was read to its end, and its bytes say so
pub record HasReadSaid (reading : Reading) (input : Input) (before after : Stream) : Type 0 where
  pub bytes : List ℕ
  pub read : HasReadAll bytes MOST_BUNDLE_BYTES before after
  pub said : IsSaidBy reading input bytes

-- ---- bundles and folders

-- the source was read to its end, and its bytes say this bundle
pub record HasReadBundle (said : Bundle) (before after : Stream) : Type 0 where
  pub bytes : List ℕ
  pub read : HasReadAll bytes MOST_BUNDLE_BYTES before after
  pub is : bundle_of bytes ≡ Ok said

-- the walk over the folder at this path, and what came of it
abbrev pub ReadsFolder : List ℕ → Result Bundle BundleStop → Folder → Folder → Type 0
ReadsFolder dir result before after = Goes (λ said. said) result (site_walk dir) before after

-- The input was had; source and tree, before and after. Who reads the folder leaves the source alone, and the other way
-- round.
abbrev pub HasInput : Reading → Input → Stream → Stream → Folder → Folder → Type 0
HasInput nothing none s s' f f' = (s' ≡ s) × (f' ≡ f)
HasInput manifest (bytes input) s s' f f' = HasReadAll input MOST_FILE_BYTES s s' × (f' ≡ f)
HasInput bundle (site said) s s' f f' = HasReadBundle said s s' × (f' ≡ f)
HasInput (folder dir) (site said) s s' f f' = (s' ≡ s) × ReadsFolder dir (Ok said) f f'
HasInput journal input s s' f f' = HasReadSaid journal input s s' × (f' ≡ f)
HasInput resuming input s s' f f' = HasReadSaid resuming input s s' × (f' ≡ f)
HasInput reading input s s' f f' = ⊥

-- ---- what stands in the way

-- how much is read from the source
abbrev pub limit_of : Reading → ℕ
limit_of nothing = 0
limit_of manifest = MOST_FILE_BYTES
limit_of bundle = MOST_BUNDLE_BYTES
limit_of (folder dir) = 0
limit_of journal = MOST_BUNDLE_BYTES
limit_of resuming = MOST_BUNDLE_BYTES

abbrev pub IsOfSource : Reading → Type 0
IsOfSource nothing = ⊥
IsOfSource manifest = Unit {0}
IsOfSource bundle = Unit {0}
IsOfSource (folder dir) = ⊥
IsOfSource journal = Unit {0}
IsOfSource resuming = Unit {0}

-- the source was read to its end, and its bytes are no bundle, or memory was wanting to read them
pub record HasReadNone (why : BundleStop) (before after : Stream) : Type 0 where
  pub bytes : List ℕ
  pub read : HasReadAll bytes MOST_BUNDLE_BYTES before after
  pub refuses : Refuses why (bundle_of bytes)

-- What is wrong with the bytes of a source that are to say a journal, and requests behind it; or memory was wanting to
-- read them, of which nothing is said. Of requests is told where the journal is one.
abbrev pub IsWrong : InputStop → Reading → List ℕ → Type 0
IsWrong (i.Refused b.Memory) journal said = Unit {0}
IsWrong (i.BadLine number) journal said = (n : ℕ) × ((number ≡ decimal n) × IsBadLine n said)
IsWrong i.TooManyEntries journal said = (h : List (Event SiteView)) × IsTooLong h said
IsWrong (i.Refused b.Memory) resuming said = Unit {0}
IsWrong (i.BadLine number) resuming said = (n : ℕ) × ((number ≡ decimal n) × IsBadLine n (journal_part said))
IsWrong i.TooManyEntries resuming said = (h : List (Event SiteView)) × IsTooLong h (journal_part said)
IsWrong (i.Refused why) resuming said =
    ((h : List (Event SiteView)) × IsJournal h (journal_part said)) × Refuses why (requests_said said)
IsWrong stop reading said = ⊥

-- the source was read to its end, and this is wrong with its bytes
pub record HasReadWrong (stop : InputStop) (reading : Reading) (before after : Stream) : Type 0 where
  pub bytes : List ℕ
  pub read : HasReadAll bytes MOST_BUNDLE_BYTES before after
  pub wrong : IsWrong stop reading bytes

-- reading stopped so; source and tree, before and after
abbrev pub HasStoppedBy : InputStop → Reading → Stream → Stream → Folder → Folder → Type 0
HasStoppedBy (i.Unread stop) reading s s' f f' = IsOfSource reading × (StopsBy stop (limit_of reading) s s' × (f' ≡ f))
HasStoppedBy (i.Refused why) bundle s s' f f' = HasReadNone why s s' × (f' ≡ f)
HasStoppedBy (i.Refused why) (folder dir) s s' f f' = (s' ≡ s) × ReadsFolder dir (Err why) f f'
HasStoppedBy stop journal s s' f f' = HasReadWrong stop journal s s' × (f' ≡ f)
HasStoppedBy stop resuming s s' f f' = HasReadWrong stop resuming s s' × (f' ≡ f)
HasStoppedBy stop reading s s' f f' = ⊥

-- the path that names the whole of what a command reads from the source
abbrev pub whole_of : Asked → List ℕ
whole_of (a.manifest node) = MAIN_MANIFEST.now
whole_of (a.serve_on port count) = codes "journal"
whole_of a.audit = codes "journal"
whole_of a.migrate = codes "journal"
whole_of (a.resume workers) = codes "journal"
whole_of asked = codes "bundle"

-- the line that tells the stop, without a line feed; where the source has more than is read, it names the whole
abbrev pub stop_text : List ℕ → InputStop → List ℕ
stop_text whole (i.Unread r.Fault) = codes "read fault"
stop_text whole (i.Unread r.TooLong) = codes "B3 " ++ whole
stop_text whole (i.Unread r.Memory) = codes "memory"
stop_text whole (i.Refused why) = stop_line why
stop_text whole (i.BadLine number) = codes "bad line " ++ number
stop_text whole i.TooManyEntries = codes "B3 " ++ whole

-- how a run ends by it
abbrev pub refused_ending : BundleStop → Ending
refused_ending b.NotJson = e.BadInput
refused_ending (b.BadShape path) = e.BadInput
refused_ending (b.TooLarge path) = e.BadInput
refused_ending (b.TreeFault path) = e.TreeFault
refused_ending b.Memory = e.Memory

abbrev pub stop_ending : InputStop → Ending
stop_ending (i.Unread r.Fault) = e.ReadFault
stop_ending (i.Unread r.TooLong) = e.BadInput
stop_ending (i.Unread r.Memory) = e.Memory
stop_ending (i.Refused why) = refused_ending why
stop_ending (i.BadLine number) = e.BadInput
stop_ending i.TooManyEntries = e.BadInput

-- what is made of the bytes of a source
abbrev pub ReadsBundle : Result Bundle InputStop → List ℕ → Type 0
ReadsBundle (Ok said) input = bundle_of input ≡ Ok said
ReadsBundle (Err (i.Refused why)) input = Refuses why (bundle_of input)
ReadsBundle (Err stop) input = ⊥

-- this line of a journal is told, unless memory is wanting
abbrev pub TellsLine : InputStop → ℕ → Type 0
TellsLine (i.Refused b.Memory) n = Unit {0}
TellsLine (i.BadLine number) n = number ≡ decimal n
TellsLine stop n = ⊥

-- the first bad line of bytes that begin with this text, behind which stands a byte that is none
abbrev pub TellsBreak : InputStop → List ℕ → Type 0
TellsBreak (i.Refused b.Memory) text = Unit {0}
TellsBreak (i.BadLine number) text = (n : ℕ) × ((number ≡ decimal n) × BreaksBehind n text)
TellsBreak stop text = ⊥

-- what is made of the bytes of a source that are to say a journal
abbrev pub ReadsJournal : Result (History SiteView) InputStop → List ℕ → Type 0
ReadsJournal (Ok said) input = IsJournal said.entries input
ReadsJournal (Err stop) input = IsWrong stop journal input

-- and requests behind it
abbrev pub ReadsAsking : Result Asking InputStop → List ℕ → Type 0
ReadsAsking (Ok said) input =
    IsJournal said.history.entries (journal_part input) × (requests_said input ≡ Ok said.requests)
ReadsAsking (Err stop) input = IsWrong stop resuming input
