-- What was read of a journal, where the source tells what it has.
use Rattle.std.proofs.Common.{◌≡◌, ◌∙◌, ◌⊎◌, ℕ, ◌-◌, ◌<◌, ◌≤◌, List, [], length, take, ap, subst, sym, refl, inl, inr, arith}
use Rattle.std.proofs.Math.Seq.{take-length}
use Rattle.std.specs.Io.KnownBytes.{Consumes}
use Rattle.std.specs.Prelude.{Option, Some, None, IfSome, Result, Ok, Err, IfErr}
use Rattle.std.specs.Str.{IsUtf8, IsValidUpTo}
use Rattle.journal_reading.specs.Journals.{IsJournalText}
use Rattle.json_documents.specs.LinesOfText.{IsFirstBad, ReadsDocument}
use Rattle.json_documents.specs.declared.doc_stop.DocStop.{DocStop}
use Rattle.json_documents.specs.declared.doc_stop.DocStop.TheVariants as doc
use Rattle.res_core.specs.Asked as requests
use Rattle.site_bundle.specs.Refusals.{not_json, bad_shape, too_large, Refuses}
use Rattle.site_bundle.specs.SiteView.{SiteView}
use Rattle.site_bundle.specs.declared.bundle_stop.BundleStop.{BundleStop}
use Rattle.site_bundle.specs.declared.bundle_stop.BundleStop.TheVariants as b
use Rattle.site_bundle.specs.declared.limits.TheConstants.{MOST_BUNDLE_BYTES}
use Rattle.site_core.specs.Events.{Event}
use Rattle.site_core.specs.declared.history.History.{History}
use Rattle.site_io.specs.Folders.{Folder}
use Rattle.site_io.specs.Stream.{Stream}
use Rattle.site_io.specs.Transfer.{HasReadAll}
use Rattle.site_io.specs.declared.transfer.ReadStop.TheVariants as r
use Rattle.site_commands.proofs.Told.{left_is_longer, read_is_left}
use Rattle.site_commands.specs.Inputs as read
use Rattle.site_commands.specs.Inputs.{Reading, Input, HasInput, HasReadSaid, HasReadWrong, HasStoppedBy, BreaksBehind, IsBadLine, IsWritten, IsJournal, IsWrong, ReadsAsking, ReadsJournal, TellsBreak, TellsLine, stop_ending}
use Rattle.site_commands.specs.JournalParts.{asked_in_line, journal_part, requests_part, requests_said}
use Rattle.site_commands.specs.Settled.{IsNoList, IsNoneSaid}
use Rattle.site_commands.specs.declared.ending.Ending.TheVariants as e
use Rattle.site_commands.specs.declared.asking_input.Asking.{Asking}
use Rattle.site_commands.specs.declared.input.InputStop.{InputStop}
use Rattle.site_commands.specs.declared.input.InputStop.TheVariants as i

-- what is read as a journal
abbrev pub IsOfJournal : Reading → Type 0
IsOfJournal read.journal = Unit {0}
IsOfJournal read.resuming = Unit {0}
IsOfJournal reading = ⊥

pub had_said : (from : Reading) (input : Input) (s s' : Stream) (f f' : Folder) → IsOfJournal from →
    HasInput from input s s' f f' → HasReadSaid from input s s'
had_said read.nothing input s s' f f' of had = absurd of
had_said read.manifest input s s' f f' of had = absurd of
had_said read.bundle input s s' f f' of had = absurd of
had_said (read.folder dir) input s s' f f' of had = absurd of
had_said read.journal input s s' f f' of had = had.0
had_said read.resuming input s s' f f' of had = had.0

-- all bytes that were left are the ones read
pub left_said : (left left' : Option (List ℕ)) (bytes : List ℕ) (P : List ℕ → Type 0) → Consumes left left' bytes →
    left' ≡ Some [] → P bytes → IfSome left P
left_said None left' bytes P took ended holds = tt
left_said (Some input) left' bytes P took ended holds = subst P (read_is_left left' input bytes ended took) holds

-- bytes with a bad line are no journal
no_text : (bytes : List ℕ) (m : ℕ) → IsValidUpTo bytes m → IsUtf8 bytes → ⊥
no_text bytes m valid text =
    valid.longest (length bytes) valid.short (subst IsUtf8 (sym (take-length bytes)) text)

not_written : (n : ℕ) (bytes : List ℕ) → IsBadLine n bytes → (h : List (Event SiteView)) → IsWritten h bytes → ⊥
not_written n bytes (inl bad) h written =
    bad.1.3 (record { entries = h }, bytes, written.journal, refl)
not_written n bytes (inr bad) h written = no_text bytes bad.0 bad.1.0 written.text

long_said : (left left' : Option (List ℕ)) (bytes : List ℕ) (P : List ℕ → Type 0) → Consumes left left' bytes →
    MOST_BUNDLE_BYTES < length bytes → ((input : List ℕ) → MOST_BUNDLE_BYTES < length input → P input) → IfSome left P
long_said None left' bytes P took long all = tt
long_said (Some input) left' bytes P took long all =
    let shorter : length bytes ≤ length input = left_is_longer left' input bytes took in
    all input (omega (arith, shorter, long))

-- what stands behind a journal is no list of requests
no_list : (why : BundleStop) (bytes : List ℕ) → e.BadInput ≡ stop_ending (i.Refused why) →
    Refuses why (requests_said bytes) →
    IsNoList bytes
no_list b.NotJson bytes is refuses = (not_json, refuses)
no_list (b.BadShape path) bytes is refuses = (bad_shape path, refuses)
no_list (b.TooLarge path) bytes is refuses = (too_large path, refuses)
no_list (b.TreeFault path) bytes is refuses = absurd refuses
no_list b.Memory bytes is refuses = cc

refused_said : (why : BundleStop) (s s' : Stream) → e.BadInput ≡ stop_ending (i.Refused why) →
    HasReadWrong (i.Refused why) read.resuming s s' → IfSome s.left (IsNoneSaid read.resuming)
refused_said b.NotJson s s' is did =
    left_said s.left s'.left did.bytes (IsNoneSaid read.resuming) did.read.read.left did.read.ended
    (inr (inr (no_list b.NotJson did.bytes is did.wrong.1)))
refused_said (b.BadShape path) s s' is did =
    left_said s.left s'.left did.bytes (IsNoneSaid read.resuming) did.read.read.left did.read.ended
    (inr (inr (no_list (b.BadShape path) did.bytes is did.wrong.1)))
refused_said (b.TooLarge path) s s' is did =
    left_said s.left s'.left did.bytes (IsNoneSaid read.resuming) did.read.read.left did.read.ended
    (inr (inr (no_list (b.TooLarge path) did.bytes is did.wrong.1)))
refused_said (b.TreeFault path) s s' is did = absurd did.wrong.1
refused_said b.Memory s s' is did = cc

-- where what was read is no journal, what is told is none
pub stop_said : (stop : InputStop) (from : Reading) (s s' : Stream) (f f' : Folder) → IsOfJournal from →
    e.BadInput ≡ stop_ending stop → HasStoppedBy stop from s s' f f' → IfSome s.left (IsNoneSaid from)
stop_said stop read.nothing s s' f f' of is did = absurd of
stop_said stop read.manifest s s' f f' of is did = absurd of
stop_said stop read.bundle s s' f f' of is did = absurd of
stop_said stop (read.folder dir) s s' f f' of is did = absurd of
stop_said (i.Unread r.Fault) read.journal s s' f f' of is did = cc
stop_said (i.Unread r.Memory) read.journal s s' f f' of is did = cc
stop_said (i.Unread r.TooLong) read.journal s s' f f' of is did =
    long_said s.left s'.left did.1.0.bytes (IsNoneSaid read.journal) did.1.0.read.left did.1.0.long
    (λ input long. inl long)
stop_said (i.Refused b.NotJson) read.journal s s' f f' of is did = absurd did.0.wrong
stop_said (i.Refused (b.BadShape path)) read.journal s s' f f' of is did = absurd did.0.wrong
stop_said (i.Refused (b.TooLarge path)) read.journal s s' f f' of is did = absurd did.0.wrong
stop_said (i.Refused (b.TreeFault path)) read.journal s s' f f' of is did = absurd did.0.wrong
stop_said (i.Refused b.Memory) read.journal s s' f f' of is did = cc
stop_said (i.BadLine number) read.journal s s' f f' of is did =
    left_said s.left s'.left did.0.bytes (IsNoneSaid read.journal) did.0.read.read.left did.0.read.ended
    (inr (inl (not_written did.0.wrong.0 did.0.bytes did.0.wrong.1.1)))
stop_said i.TooManyEntries read.journal s s' f f' of is did =
    left_said s.left s'.left did.0.bytes (IsNoneSaid read.journal) did.0.read.read.left did.0.read.ended
    (inr (inr did.0.wrong))
stop_said (i.Unread r.Fault) read.resuming s s' f f' of is did = cc
stop_said (i.Unread r.Memory) read.resuming s s' f f' of is did = cc
stop_said (i.Unread r.TooLong) read.resuming s s' f f' of is did =
    long_said s.left s'.left did.1.0.bytes (IsNoneSaid read.resuming) did.1.0.read.left did.1.0.long
    (λ input long. inl long)
stop_said (i.Refused why) read.resuming s s' f f' of is did = refused_said why s s' is did.0
stop_said (i.BadLine number) read.resuming s s' f f' of is did =
    left_said s.left s'.left did.0.bytes (IsNoneSaid read.resuming) did.0.read.read.left did.0.read.ended
    (inr (inl (inl (not_written did.0.wrong.0 (journal_part did.0.bytes) did.0.wrong.1.1))))
stop_said i.TooManyEntries read.resuming s s' f f' of is did =
    left_said s.left s'.left did.0.bytes (IsNoneSaid read.resuming) did.0.read.read.left did.0.read.ended
    (inr (inl (inr did.0.wrong)))

-- what is wrong with the journal is wrong with the input that begins with it
wrong_part : (stop : InputStop) (bytes : List ℕ) → IsWrong stop read.journal (journal_part bytes) →
    IsWrong stop read.resuming bytes
wrong_part (i.Unread stop) bytes wrong = absurd wrong
wrong_part (i.Refused b.NotJson) bytes wrong = absurd wrong
wrong_part (i.Refused (b.BadShape path)) bytes wrong = absurd wrong
wrong_part (i.Refused (b.TooLarge path)) bytes wrong = absurd wrong
wrong_part (i.Refused (b.TreeFault path)) bytes wrong = absurd wrong
wrong_part (i.Refused b.Memory) bytes wrong = tt
wrong_part (i.BadLine number) bytes wrong = wrong
wrong_part i.TooManyEntries bytes wrong = wrong

-- the reader of journals told this line
pub line_told : (why : DocStop) (n : ℕ) (text : List ℕ) → why ≡ doc.Bad n →
    ReadsDocument (λ (h : History SiteView). IsJournalText h.entries) text (Err why) →
    IsFirstBad (λ (h : History SiteView). IsJournalText h.entries) n text
line_told why n text is told =
    subst (λ s. ReadsDocument (λ (h : History SiteView). IsJournalText h.entries) text (Err s)) is told

-- a bad line that is told is what is wrong
pub told_wrong : (stop : InputStop) (n : ℕ) (bytes : List ℕ) → TellsLine stop n → IsBadLine n bytes →
    IsWrong stop read.journal bytes
told_wrong (i.Unread stop) n bytes told bad = absurd told
told_wrong (i.Refused b.NotJson) n bytes told bad = absurd told
told_wrong (i.Refused (b.BadShape path)) n bytes told bad = absurd told
told_wrong (i.Refused (b.TooLarge path)) n bytes told bad = absurd told
told_wrong (i.Refused (b.TreeFault path)) n bytes told bad = absurd told
told_wrong (i.Refused b.Memory) n bytes told bad = tt
told_wrong (i.BadLine number) n bytes told bad = (n, (told, bad))
told_wrong i.TooManyEntries n bytes told bad = absurd told

-- and so is the first bad line of bytes that are no text
pub told_break : (stop : InputStop) (n : ℕ) (text : List ℕ) → TellsLine stop n → BreaksBehind n text → TellsBreak stop text
told_break (i.Unread stop) n text told bad = absurd told
told_break (i.Refused b.NotJson) n text told bad = absurd told
told_break (i.Refused (b.BadShape path)) n text told bad = absurd told
told_break (i.Refused (b.TooLarge path)) n text told bad = absurd told
told_break (i.Refused (b.TreeFault path)) n text told bad = absurd told
told_break (i.Refused b.Memory) n text told bad = tt
told_break (i.BadLine number) n text told bad = (n, (told, bad))
told_break i.TooManyEntries n text told bad = absurd told

pub broken_wrong : (stop : InputStop) (bytes : List ℕ) (m : ℕ) → IsValidUpTo bytes m → TellsBreak stop (take m bytes) →
    IsWrong stop read.journal bytes
broken_wrong (i.Unread stop) bytes m valid told = absurd told
broken_wrong (i.Refused b.NotJson) bytes m valid told = absurd told
broken_wrong (i.Refused (b.BadShape path)) bytes m valid told = absurd told
broken_wrong (i.Refused (b.TooLarge path)) bytes m valid told = absurd told
broken_wrong (i.Refused (b.TreeFault path)) bytes m valid told = absurd told
broken_wrong (i.Refused b.Memory) bytes m valid told = tt
broken_wrong (i.BadLine number) bytes m valid (n, (told, bad)) = (n, (told, inr (m, (valid, bad))))
broken_wrong i.TooManyEntries bytes m valid told = absurd told

-- what was read stopped so, where it was read whole and is no journal
pub stopped_said : (had : Result (History SiteView) InputStop) (bytes : List ℕ) (s s' : Stream) →
    HasReadAll bytes MOST_BUNDLE_BYTES s s' → ReadsJournal had bytes →
    IfErr had (λ stop. (f : Folder) → HasStoppedBy stop read.journal s s' f f)
stopped_said (Ok said) bytes s s' all is = tt
stopped_said (Err (i.Unread stop)) bytes s s' all wrong = absurd wrong
stopped_said (Err (i.Refused why)) bytes s s' all wrong =
    λ f. (record { bytes = bytes; read = all; wrong = wrong }, refl)
stopped_said (Err (i.BadLine number)) bytes s s' all wrong =
    λ f. (record { bytes = bytes; read = all; wrong = wrong }, refl)
stopped_said (Err i.TooManyEntries) bytes s s' all wrong =
    λ f. (record { bytes = bytes; read = all; wrong = wrong }, refl)

pub stopped_asking : (had : Result Asking InputStop) (bytes : List ℕ) (s s' : Stream) →
    HasReadAll bytes MOST_BUNDLE_BYTES s s' → ReadsAsking had bytes →
    IfErr had (λ stop. (f : Folder) → HasStoppedBy stop read.resuming s s' f f)
stopped_asking (Ok said) bytes s s' all is = tt
stopped_asking (Err (i.Unread stop)) bytes s s' all wrong = absurd wrong
stopped_asking (Err (i.Refused why)) bytes s s' all wrong =
    λ f. (record { bytes = bytes; read = all; wrong = wrong }, refl)
stopped_asking (Err (i.BadLine number)) bytes s s' all wrong =
    λ f. (record { bytes = bytes; read = all; wrong = wrong }, refl)
stopped_asking (Err i.TooManyEntries) bytes s s' all wrong =
    λ f. (record { bytes = bytes; read = all; wrong = wrong }, refl)

-- the requests behind a journal are none
no_requests : (why : BundleStop) (h : List (Event SiteView)) (all : List ℕ) → IsJournal h (journal_part all) →
    Refuses why (requests_said all) → IsWrong (i.Refused why) read.resuming all
no_requests b.NotJson h all is refuses = ((h, is), refuses)
no_requests (b.BadShape path) h all is refuses = ((h, is), refuses)
no_requests (b.TooLarge path) h all is refuses = ((h, is), refuses)
no_requests (b.TreeFault path) h all is refuses = ((h, is), refuses)
no_requests b.Memory h all is refuses = tt

-- the bytes before the requests are the journal
part_is : (all behind part : List ℕ) → behind ≡ requests_part all → part ≡ take (length all - length behind) all →
    part ≡ journal_part all
part_is all behind part is cut = cut ∙ ap (λ b. take (length all - length b) all) is

-- where these are the journal of a history, it is gone on from there
pub asked_behind : (had : Result Asking InputStop) (h : List (Event SiteView)) (all behind part : List ℕ) →
    behind ≡ requests_part all → part ≡ take (length all - length behind) all → IsJournal h part →
    ((bytes : List ℕ) → IsJournal h (journal_part bytes) → behind ≡ requests_part bytes → ReadsAsking had bytes) →
    ReadsAsking had all
asked_behind had h all behind part is cut journal next =
    next all (subst (IsJournal h) (part_is all behind part is cut) journal) is

pub part_wrong : (stop : InputStop) (all behind part : List ℕ) → behind ≡ requests_part all →
    part ≡ take (length all - length behind) all → IsWrong stop read.journal part → IsWrong stop read.resuming all
part_wrong stop all behind part is cut wrong =
    wrong_part stop all (subst (IsWrong stop read.journal) (part_is all behind part is cut) wrong)

-- a history and the requests behind it
pub both_read : (history : History SiteView) (asked : List requests.Asked) (bytes all : List ℕ) →
    IsJournal history.entries (journal_part all) → bytes ≡ requests_part all → asked_in_line bytes ≡ Ok asked →
    ReadsAsking (Ok (record { history = history; requests = asked })) all
both_read history asked bytes all journal is said = (journal, subst (λ b. asked_in_line b ≡ Ok asked) is said)

pub none_read : (why : BundleStop) (h : List (Event SiteView)) (bytes all : List ℕ) →
    IsJournal h (journal_part all) → bytes ≡ requests_part all → Refuses why (asked_in_line bytes) →
    IsWrong (i.Refused why) read.resuming all
none_read why h bytes all journal is refuses =
    no_requests why h all journal (subst (λ b. Refuses why (asked_in_line b)) is refuses)
