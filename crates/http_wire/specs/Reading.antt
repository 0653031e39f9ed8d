-- What reading a request does to what was read, and to the source.
use Rattle.std.specs.Prelude.{◌≡◌, ◌≢◌, ℕ, ◌+◌, ◌<◌, ◌≤◌, ◌⊎◌, List, [], ◌++◌, length, take, drop, Option, Some, None}
use Rattle.std.specs.Prelude.{Result, Ok, Err}
use Rattle.site_io.specs.Events.{Since, OneRead, Draws}
use Rattle.site_io.specs.Stream.{Stream, Rose, HasRead, HasFailed}
use Rattle.httparse.specs.Grammar.{RequestHead, print_request, HasNoRequest}
use Rattle.httparse.specs.Spans.{RequestExceeds}
use Rattle.http_wire.specs.Fields.{NameAndValue, fields_of, body_length, closes, seen}
use Rattle.http_wire.specs.Messages.{most_head, most_fields, HasHead, HasNext, HasNone, IsOpenHead, IsNoHead, IsCrowded}
use Rattle.http_wire.specs.Messages.{IsOpen, Refuses}
use Rattle.http_wire.specs.declared.request.HttpRequest.{HttpRequest}
use Rattle.http_wire.specs.declared.request.H.TheVariants as h
use Rattle.http_wire.specs.declared.request.WireStop.{WireStop}
use Rattle.http_wire.specs.declared.request.WireStop.TheVariants as stop
use Rattle.http_wire.specs.declared.heads.Head.{Head}
use Rattle.http_wire.specs.declared.heads.Look.{Look}
use Rattle.http_wire.specs.declared.heads.Look.TheVariants as looked
use Rattle.http_wire.specs.declared.reading.Gathered.{Gathered}
use Rattle.http_wire.specs.declared.reading.Gathered.TheVariants as gathered
use Rattle.http_wire.specs.declared.filling.Filled.{Filled}
use Rattle.http_wire.specs.declared.filling.Filled.TheVariants as filled
use Rattle.http_wire.specs.declared.reading.NextHead.{NextHead}
use Rattle.http_wire.specs.declared.reading.NextHead.TheVariants as next

-- Nothing was read, or the last read was made while the bytes at hand still lacked something.
abbrev pub IsWanted : (List ℕ → Type 0) → List ℕ → List ℕ → Type 0
IsWanted Lacks unread more =
    (more ≡ []) ⊎ ((front : List ℕ) × (last : List ℕ) × (more ≡ front ++ last) × (last ≢ []) × Lacks (unread ++ front))

-- each of these reads, also one that gave nothing, was made while the bytes at hand still lacked something
abbrev pub HasDrawn : (List ℕ → Type 0) → List ℕ → List ℕ → Stream → Stream → Type 0
HasDrawn Lacks unread more before after = Since (Draws Lacks unread more) before.events after.events

-- The bytes at hand were the unread ones, and are these now, by what was read in between.
pub record HasGathered (Lacks : List ℕ → Type 0) (unread bytes : List ℕ) (before after : Stream) : Type 0 where
  pub more : List ℕ
  pub grown : bytes ≡ unread ++ more
  pub read : HasRead more before after
  pub wanted : IsWanted Lacks unread more
  pub drawn : HasDrawn Lacks unread more before after

-- what was read is lost, since memory was wanting
abbrev pub HasLost : (List ℕ → Type 0) → List ℕ → Stream → Stream → Type 0
HasLost Lacks unread before after =
    (more : List ℕ) × HasRead more before after × HasDrawn Lacks unread more before after

-- why no request is answered
abbrev pub StopsBy : List ℕ → List ℕ → WireStop → Stream → Stream → Type 0
StopsBy unread rest (stop.Bad why offset) before after =
    HasGathered HasNone unread rest before after × Refuses why rest (after.left ≡ Some []) × (offset ≡ 0)
StopsBy unread rest stop.ReadFault before after =
    HasGathered HasNone unread rest before after × IsOpen rest × Rose before.faults after.faults
StopsBy unread rest stop.Memory before after = HasLost HasNone unread before after

-- What is answered, by the bytes at hand: those that had been read before, and those that were read now. No byte is
-- read where a request is at hand.
abbrev pub ReadsNext : List ℕ → List ℕ → Result (Option HttpRequest) WireStop → Stream → Stream → Type 0
ReadsNext unread rest (Ok (Some request)) before after =
    (bytes : List ℕ) × HasGathered HasNone unread bytes before after × HasNext bytes request rest
ReadsNext unread rest (Ok None) before after =
    HasGathered HasNone unread rest before after × (rest ≡ []) × (after.left ≡ Some [])
ReadsNext unread rest (Err why) before after = StopsBy unread rest why before after

-- ---- steps

-- what is kept of a head with these parts
pub record IsKept (method path : List ℕ) (minor : ℕ) (fields : List NameAndValue) (size : ℕ) (kept : Head)
    : Type 0 where
  pub method_is : kept.method ≡ method
  pub path_is : kept.path ≡ path
  pub seen_is : kept.seen ≡ seen fields
  pub close_is : kept.close ≡ closes minor fields
  pub body_is : kept.body ≡ body_length fields
  pub size_is : kept.size ≡ size

-- the bytes begin with a head, of which that is kept
pub record IsHeadOf (bytes : List ℕ) (kept : Head) : Type 0 where
  pub head : RequestHead
  pub back : List ℕ
  pub has : HasHead bytes head back
  pub few : length head.fields ≤ most_fields
  pub parts : IsKept head.method head.target head.minor (fields_of head) (length (print_request head)) kept

abbrev pub Looks : List ℕ → Look → Type 0
Looks bytes (looked.Whole kept) = IsHeadOf bytes kept
Looks bytes looked.Open = IsOpenHead bytes
Looks bytes looked.Never = IsNoHead bytes ⊎ IsCrowded bytes
Looks bytes looked.NoMemory = Unit {0}

-- the same, but that the parser may not have been asked yet
abbrev pub Asks : List ℕ → Look → Type 0
Asks bytes (looked.Whole kept) = IsHeadOf bytes kept
Asks bytes looked.Open = HasNoRequest bytes
Asks bytes looked.Never = IsNoHead bytes ⊎ IsCrowded bytes
Asks bytes looked.NoMemory = Unit {0}

-- with room for so many fields, which may be too few
abbrev pub LooksWithin : ℕ → List ℕ → Option Look → Type 0
LooksWithin room bytes (Some look) = Looks bytes look
LooksWithin room bytes None = RequestExceeds room bytes

-- what reading the bytes of a head came to
abbrev pub Gathers : List ℕ → List ℕ → Gathered → Stream → Stream → Type 0
Gathers unread rest (gathered.Found kept) before after =
    HasGathered HasNone unread rest before after × IsHeadOf rest kept
Gathers unread rest gathered.Never before after =
    HasGathered HasNone unread rest before after × (IsNoHead (take most_head rest) ⊎ IsCrowded rest)
Gathers unread rest gathered.Full before after =
    HasGathered HasNone unread rest before after × (most_head ≤ length rest)
Gathers unread rest gathered.Ended before after =
    HasGathered HasNone unread rest before after × (length rest < most_head) × (after.left ≡ Some [])
Gathers unread rest gathered.Failed before after =
    HasGathered HasNone unread rest before after × (length rest < most_head) × Rose before.faults after.faults
Gathers unread rest gathered.Memory before after = HasLost HasNone unread before after

-- what the bytes come to, where no more are read for this cause
abbrev pub ComesTo : List ℕ → WireStop → NextHead → Type 0
ComesTo rest cause (next.Found kept) = IsHeadOf rest kept
ComesTo rest cause next.Nothing = ⊥
ComesTo rest cause (next.Stopped why) =
    ((why ≡ cause) × IsOpenHead (take most_head rest))
    ⊎ (((why ≡ stop.Bad h.BadHead 0) × (IsNoHead (take most_head rest) ⊎ IsCrowded rest)) ⊎ (why ≡ stop.Memory))

abbrev pub ReadsHead : List ℕ → List ℕ → NextHead → Stream → Stream → Type 0
ReadsHead unread rest (next.Found kept) before after = HasGathered HasNone unread rest before after × IsHeadOf rest kept
ReadsHead unread rest next.Nothing before after =
    HasGathered HasNone unread rest before after × (rest ≡ []) × (after.left ≡ Some [])
ReadsHead unread rest (next.Stopped why) before after = StopsBy unread rest why before after

-- the body behind a head that is whole
abbrev pub ReadsBody : List ℕ → List ℕ → Result (Option HttpRequest) WireStop → Stream → Stream → Type 0
ReadsBody unread rest (Ok (Some request)) before after =
    (bytes : List ℕ) × HasGathered HasNone unread bytes before after × HasNext bytes request rest
ReadsBody unread rest (Ok None) before after = ⊥
ReadsBody unread rest (Err why) before after = StopsBy unread rest why before after

-- a request with a body of `count` bytes, behind the head of which that is kept, and what stands behind it
pub record IsTaken (kept : Head) (count : ℕ) (bytes : List ℕ) (request : HttpRequest) (rest : List ℕ) : Type 0 where
  pub method : request.method ≡ kept.method
  pub path : request.path ≡ kept.path
  pub seen : request.seen ≡ kept.seen
  pub close : request.close ≡ kept.close
  pub body : request.body ≡ take count (drop kept.size bytes)
  pub size : request.size ≡ kept.size + count
  pub rest_is : rest ≡ drop (kept.size + count) bytes

-- one call of the source, which gave these bytes
pub record HasReadOnce (bytes : List ℕ) (before after : Stream) : Type 0 where
  pub read : HasRead bytes before after
  pub once : Since (OneRead bytes) before.events after.events

abbrev pub Fills : List ℕ → List ℕ → Filled → Stream → Stream → Type 0
Fills unread rest filled.Done before after =
    (last : List ℕ) × (rest ≡ unread ++ last) × (last ≢ []) × HasReadOnce last before after
Fills unread rest filled.Ended before after = (rest ≡ unread) × HasReadOnce [] before after × (after.left ≡ Some [])
Fills unread rest filled.Failed before after = (rest ≡ unread) × HasFailed before after
Fills unread rest filled.Memory before after = (last : List ℕ) × HasReadOnce last before after

abbrev pub IsShorter : ℕ → List ℕ → Type 0
IsShorter size bytes = length bytes < size

-- reads until so many bytes are at hand
abbrev pub FillsTo : ℕ → List ℕ → List ℕ → Filled → Stream → Stream → Type 0
FillsTo size unread rest filled.Done before after =
    HasGathered (IsShorter size) unread rest before after × (size ≤ length rest)
FillsTo size unread rest filled.Ended before after =
    HasGathered (IsShorter size) unread rest before after × (length rest < size) × (after.left ≡ Some [])
FillsTo size unread rest filled.Failed before after =
    HasGathered (IsShorter size) unread rest before after × (length rest < size) × Rose before.faults after.faults
FillsTo size unread rest filled.Memory before after = HasLost (IsShorter size) unread before after
