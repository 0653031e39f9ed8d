-- A connection from its first byte on, and how it ends.
use Rattle.std.specs.Prelude.{◌≡◌, ℕ, ◌+◌, ◌<◌, ◌≤◌, ◌⊎◌, true, false, List, [], ◌∷◌, ◌++◌, length, Option, Some, Ok}
use Rattle.std.specs.Prelude.{Err}
use Rattle.std.specs.List.{AllZip}
use Rattle.site_io.specs.Events.{Since, EachRead}
use Rattle.site_io.specs.Stream.{Stream, Rose, HasTraded}
use Rattle.site_core.specs.Asked.{Asked}
use Rattle.site_core.specs.Meaning.{Meaning}
use Rattle.site_core.specs.Legal.{Legal}
use Rattle.site_core.specs.Fits.{Listed}
use Rattle.site_core.specs.Runs.{Runs, had_after, all_named}
use Rattle.site_core.specs.declared.reply.ReplyOf.{ReplyOf}
use Rattle.shared_site.specs.Known.{Known, IsLater}
use Rattle.http_wire.specs.Messages.{Begins, HasNone, Refuses, IsOpen}
use Rattle.http_wire.specs.Responses.{response_text}
use Rattle.http_wire.specs.declared.request.H.{H}
use Rattle.http_wire.specs.declared.request.HttpRequest.{HttpRequest}
use Rattle.http_wire.specs.declared.response.HttpResponse.{HttpResponse}
use Rattle.site_serve.specs.Requests.{Reading, Asks}
use Rattle.site_serve.specs.Replies.{refusal_response, seen_of, reply_response, refusal_text}
use Rattle.site_serve.specs.declared.conn_end.ConnEnd.{ConnEnd}
use Rattle.site_serve.specs.declared.conn_end.ConnEnd.TheVariants as end
use Rattle.site_serve.specs.declared.conn_end.TheConstants.{MOST_ANSWERS}
use Rattle.site_serve.specs.declared.refusal.Refusal.{Refusal}

-- ---- what requests came to

-- a request that asks nothing was refused, or what it asks of the site had this reply
pub data Turn (S C F : Type 0) : Type 0 where
  refused : Refusal → Turn S C F
  replied : Asked S → ReplyOf C F → Turn S C F

-- what requests ask of a site, and the texts of its catalogs and faults
pub record Dialect (S C F : Type 0) : Type 1 where
  pub asks : HttpRequest → Reading (Asked S) → Type 0
  pub catalog : C → List ℕ
  pub fault : F → List ℕ

-- that of a language, by the sites that bytes say and by its texts
abbrev pub dialect : {S C F : Type 0} → (List ℕ → Option S) → (C → List ℕ) → (F → List ℕ) → Dialect S C F
dialect said_site catalog fault = record { asks = Asks said_site; catalog = catalog; fault = fault }

module _ {S C F : Type 0} where
  abbrev pub IsTurn : (HttpRequest → Reading (Asked S) → Type 0) → HttpRequest → Turn S C F → Type 0
  IsTurn asks r (refused why) = asks r (Err why)
  IsTurn asks r (replied asked reply) = asks r (Ok asked)

  abbrev pub turn_response : Dialect S C F → Turn S C F → HttpResponse
  turn_response d (refused why) = refusal_response why
  turn_response d (replied asked reply) = reply_response d.catalog d.fault (seen_of asked) reply

  -- the bytes of the responses, in order
  abbrev pub texts_of : Dialect S C F → List (Turn S C F) → List ℕ
  texts_of d [] = []
  texts_of d (t ∷ ts) = response_text (turn_response d t) ++ texts_of d ts

  -- what the site was asked, and its replies
  abbrev pub asked_in : List (Turn S C F) → List (Asked S)
  asked_in [] = []
  asked_in (refused why ∷ ts) = asked_in ts
  asked_in (replied asked reply ∷ ts) = asked ∷ asked_in ts

  abbrev pub replies_in : List (Turn S C F) → List (ReplyOf C F)
  replies_in [] = []
  replies_in (refused why ∷ ts) = replies_in ts
  replies_in (replied asked reply ∷ ts) = reply ∷ replies_in ts

-- ---- order

module _ {S C F : Type 0} (d : Dialect S C F) where
  -- the text answers every request that is whole in the bytes, in order, and says nothing else
  abbrev pub AllAnswered : List ℕ → List ℕ → Type 0
  AllAnswered bytes text =
      (rs : List HttpRequest) × (rest : List ℕ) × (turns : List (Turn S C F)) × Begins bytes rs rest × HasNone rest
      × AllZip (IsTurn d.asks) rs turns × (text ≡ texts_of d turns)

  -- Each answer stands before the next byte that is read for another request: wherever a read was made, what had been
  -- written by then answers all requests that had been read by then. This is said of a connection that tells its calls.
  abbrev pub IsPrompt : Stream → Stream → Type 0
  IsPrompt before after = Since (EachRead AllAnswered [] []) before.events after.events

-- ---- how many requests are answered

-- none of these closes the connection
abbrev pub AllOpen : List HttpRequest → Type 0
AllOpen [] = Unit {0}
AllOpen (r ∷ rs) = (r.close ≡ false) × AllOpen rs

-- behind these requests another one may be answered
abbrev pub GoOn : List HttpRequest → Type 0
GoOn rs = AllOpen rs × (length rs < MOST_ANSWERS)

-- the last of these is the last of the connection: it closes it, or no more are answered
abbrev pub EndHere : List HttpRequest → Type 0
EndHere rs =
    (front : List HttpRequest) × (r : HttpRequest) × (rs ≡ front ++ r ∷ []) × GoOn front
    × ((r.close ≡ true) ⊎ (length rs ≡ MOST_ANSWERS))

-- none of these stands behind one that ends the connection
abbrev pub AreTaken : List HttpRequest → Type 0
AreTaken rs =
    GoOn rs ⊎ ((front : List HttpRequest) × (r : HttpRequest) × (rs ≡ front ++ r ∷ []) × GoOn front)

-- ---- ends

-- all of the text was written, or a front of it
abbrev pub IsFront : List ℕ → List ℕ → Type 0
IsFront written due = (lost : List ℕ) × (due ≡ written ++ lost)

module _ {S C F : Type 0} (d : Dialect S C F) (Replied : List (Asked S) → List (ReplyOf C F) → Type 0) where
  -- The bytes begin with these requests, behind which the rest stands. The requests came to turns, in order, whose
  -- responses are `due`, and what the site was asked in them had such replies.
  pub record HasTalked (bytes rest due : List ℕ) (rs : List HttpRequest) : Type 0 where
    pub begins : Begins bytes rs rest
    pub turns : List (Turn S C F)
    pub each : AllZip (IsTurn d.asks) rs turns
    pub replies : Replied (asked_in turns) (replies_in turns)
    pub due_is : due ≡ texts_of d turns

  -- A front was written of what was due: the responses to all requests, or these and a refusal, where none of them
  -- ended the connection.
  pub record HasStopped (before after : Stream) : Type 0 where
    pub bytes : List ℕ
    pub rest : List ℕ
    pub text : List ℕ
    pub due : List ℕ
    pub rs : List HttpRequest
    pub talked : HasTalked bytes rest due rs
    pub traded : HasTraded bytes text before after
    pub taken : AreTaken rs
    pub front : IsFront text due
        ⊎ ((why : H) × GoOn rs × Refuses why rest (after.left ≡ Some []) × IsFront text (due ++ refusal_text why))

  -- What was read from the connection and written to it, by its end.
  abbrev pub Ends : ConnEnd → Stream → Stream → Type 0
  -- All requests were answered, and the input ended behind them; or the last one that was answered ends the connection.
  Ends end.Closed before after =
      (bytes : List ℕ) × (rest : List ℕ) × (text : List ℕ) × (rs : List HttpRequest)
      × HasTalked bytes rest text rs × HasTraded bytes text before after
      × ((GoOn rs × (rest ≡ []) × (after.left ≡ Some [])) ⊎ EndHere rs)
  -- All requests were answered, and then the refusal. The faulty message begins at this place, counted from the
  -- connection's first byte.
  Ends (end.Bad why offset) before after =
      (bytes : List ℕ) × (rest : List ℕ) × (text : List ℕ) × (rs : List HttpRequest)
      × HasTalked bytes rest text rs × HasTraded bytes (text ++ refusal_text why) before after × GoOn rs
      × Refuses why rest (after.left ≡ Some []) × (length bytes ≡ offset + length rest)
  -- All requests were answered, and what was read behind them is no whole request, and no faulty one.
  Ends end.ReadFault before after =
      (bytes : List ℕ) × (rest : List ℕ) × (text : List ℕ) × (rs : List HttpRequest)
      × HasTalked bytes rest text rs × HasTraded bytes text before after × GoOn rs
      × IsOpen rest × Rose before.faults after.faults
  Ends end.WriteFault before after = HasStopped before after × Rose before.faults after.faults
  Ends end.Memory before after = HasStopped before after

-- With a pass that was p at first the site was asked these, one after another, and replied so. The entries that the
-- pass's own gained are those that the replies name.
pub record HasReplied {S C F : Type 0} (meaning : Meaning S C F) (listed : Listed S) (p q : Known S)
    (asked : List (Asked S)) (replies : List (ReplyOf C F)) : Type 0 where
  pub later : IsLater p q
  pub legal : Legal meaning q.front
  pub few : length q.front ≤ q.terms.limit
  pub run : Runs meaning listed q.front q.terms.limit q.author (length p.front) asked replies
  pub had : had_after (length p.front) replies ≤ length q.front
  pub own : q.own ≡ p.own ++ all_named replies
