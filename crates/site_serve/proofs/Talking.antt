-- A connection, one request after another, and its ends.
use Rattle.std.proofs.Common.{◌≡◌, ◌⊎◌, inl, inr, ℕ, ◌+◌, ◌<◌, ◌≤◌, true, false, List, [], ◌∷◌, ◌++◌, length, Option, Some, None, refl, sym, ap, ◌∙◌, subst, subst₂, arith, append_assoc, append-nil, length-append}
use Rattle.std.specs.Prelude.{Result, Ok, Err}
use Rattle.std.specs.List.{AllZip}
use Rattle.site_io.specs.Events.{Since, Kept}
use Rattle.site_io.specs.Stream.{Stream, Rose, HasRead, HasWritten, HasTraded}
use Rattle.site_io.proofs.Streams.{nothing_traded, traded_then_read, traded_then_written, Rose-after}
use Rattle.site_core.specs.Asked.{Asked}
use Rattle.site_core.specs.Meaning.{Meaning}
use Rattle.site_core.specs.Legal.{Legal}
use Rattle.site_core.specs.Fits.{Listed}
use Rattle.site_core.specs.declared.reply.ReplyOf.{ReplyOf}
use Rattle.shared_site.specs.Known.{Known}
use Rattle.http_wire.specs.Messages.{HasNext, HasNone, Begins, Refuses, IsOpen}
use Rattle.http_wire.specs.Reading.{HasGathered, HasLost, StopsBy, ReadsNext}
use Rattle.http_wire.specs.Responses.{response_text, HasBegun, WritesText}
use Rattle.http_wire.specs.declared.request.H.{H}
use Rattle.http_wire.specs.declared.request.HttpRequest.{HttpRequest}
use Rattle.http_wire.specs.declared.request.WireStop.{WireStop}
use Rattle.http_wire.specs.declared.response.HttpResponse.{HttpResponse}
use Rattle.http_wire.specs.declared.response.WriteStop.{WriteStop}
use Rattle.site_serve.specs.Replies.{refusal_text}
use Rattle.site_serve.specs.Ends.{Turn, refused, replied, Dialect, IsTurn, turn_response, texts_of, asked_in, replies_in, AllOpen, GoOn, EndHere, AreTaken, IsFront, AllAnswered, IsPrompt, HasTalked, HasStopped, Ends, HasReplied}
use Rattle.site_serve.specs.Steps.{EndsRefused, Takes, Responds, HasServed}
use Rattle.site_serve.specs.declared.conn_end.ConnEnd.{ConnEnd}
use Rattle.site_serve.specs.declared.conn_end.ConnEnd.TheVariants as end
use Rattle.site_serve.specs.declared.conn_end.TheConstants.{MOST_ANSWERS}
use Rattle.site_serve.specs.declared.refusal.Refusal.{Refusal}
use Rattle.site_serve.proofs.Order.{none_kept, prompt_so, kept_read, kept_written, prompt_refused}
use Rattle.site_serve.proofs.Replying.{none_replied, one_replied}

-- ---- what came of a read and of a write, by their answers

pub read_one : (unread rest : List ℕ) (r : Option HttpRequest) (request : HttpRequest) (before after : Stream) →
    r ≡ Some request → ReadsNext unread rest (Ok r) before after → ReadsNext unread rest (Ok (Some request)) before after
read_one unread rest r request before after is reads = subst (λ x. ReadsNext unread rest (Ok x) before after) is reads

pub read_none : (unread rest : List ℕ) (r : Option HttpRequest) (before after : Stream) → r ≡ None →
    ReadsNext unread rest (Ok r) before after → ReadsNext unread rest (Ok None) before after
read_none unread rest r before after is reads = subst (λ x. ReadsNext unread rest (Ok x) before after) is reads

pub read_stopped : (unread rest : List ℕ) (s t : WireStop) (before after : Stream) → s ≡ t →
    ReadsNext unread rest (Err s) before after → StopsBy unread rest t before after
read_stopped unread rest s t before after is reads = subst (λ x. StopsBy unread rest x before after) is reads

pub write_stopped : (s t : WriteStop) (text : List ℕ) (before after : Stream) → s ≡ t →
    WritesText {U = Unit {0}} text (Err s) before after → WritesText {U = Unit {0}} text (Err t) before after
write_stopped s t text before after is writes = subst (λ x. WritesText {U = Unit {0}} text (Err x) before after) is writes

-- ---- requests at the front of bytes

begins_more : (bytes rest more : List ℕ) (rs : List HttpRequest) → Begins bytes rs rest →
    Begins (bytes ++ more) rs (rest ++ more)
begins_more bytes rest more [] is = ap (λ l. l ++ more) is
begins_more bytes rest more (r ∷ rs) b = (
  b.0 ++ more,
  (b.1.0, b.1.1, ap (λ l. l ++ more) b.1.2 ∙ append_assoc b.1.0 b.0 more),
  begins_more b.0 rest more rs b.2,
)

begins_push : (bytes rest back : List ℕ) (rs : List HttpRequest) (r : HttpRequest) → Begins bytes rs rest →
    HasNext rest r back → Begins bytes (rs ++ r ∷ []) back
begins_push bytes rest back [] r is next = (back, (next.0, next.1, is ∙ next.2), refl)
begins_push bytes rest back (x ∷ rs) r b next = (b.0, b.1, begins_push b.0 rest back rs r b.2 next)

open_push : (rs : List HttpRequest) (r : HttpRequest) → AllOpen rs → r.close ≡ false → AllOpen (rs ++ r ∷ [])
open_push [] r going open_ = (open_, tt)
open_push (x ∷ rs) r going open_ = (going.0, open_push rs r going.1 open_)

-- the last of the requests, and those before it
last_of : (rs : List HttpRequest) → AllOpen rs → 0 < length rs →
    (front : List HttpRequest) × (r : HttpRequest) × (rs ≡ front ++ r ∷ []) × AllOpen front
    × (length rs ≡ length front + 1)
last_of [] going some = absurd (omega (arith, some))
last_of (x ∷ []) going some = ([], x, refl, tt, omega arith)
last_of (x ∷ y ∷ rs) going some =
    let rest = last_of (y ∷ rs) going.1 (omega arith) in
    (x ∷ rest.0, rest.1, ap (λ l. x ∷ l) rest.2, (going.0, rest.3), omega (arith, rest.4))

module _ {A B : Type 0} (R : A → B → Type 0) where
  zip_snoc : (xs : List A) (ys : List B) (x : A) (y : B) → AllZip R xs ys → R x y →
      AllZip R (xs ++ x ∷ []) (ys ++ y ∷ [])
  zip_snoc [] [] x y all new = (new, tt)
  zip_snoc [] (b ∷ ys) x y all new = absurd all
  zip_snoc (a ∷ xs) [] x y all new = absurd all
  zip_snoc (a ∷ xs) (b ∷ ys) x y all new = (all.0, zip_snoc xs ys x y all.1 new)

-- ---- turns

module _ {S C F : Type 0} where
  asked_refused : (ts : List (Turn S C F)) (why : Refusal) → asked_in (ts ++ refused why ∷ []) ≡ asked_in ts
  asked_refused [] why = refl
  asked_refused (refused s ∷ ts) why = asked_refused ts why
  asked_refused (replied x y ∷ ts) why = ap (λ l. x ∷ l) (asked_refused ts why)

  replies_refused : (ts : List (Turn S C F)) (why : Refusal) → replies_in (ts ++ refused why ∷ []) ≡ replies_in ts
  replies_refused [] why = refl
  replies_refused (refused s ∷ ts) why = replies_refused ts why
  replies_refused (replied x y ∷ ts) why = ap (λ l. y ∷ l) (replies_refused ts why)

  asked_replied : (ts : List (Turn S C F)) (a : Asked S) (r : ReplyOf C F) →
      asked_in (ts ++ replied a r ∷ []) ≡ asked_in ts ++ a ∷ []
  asked_replied [] a r = refl
  asked_replied (refused s ∷ ts) a r = asked_replied ts a r
  asked_replied (replied x y ∷ ts) a r = ap (λ l. x ∷ l) (asked_replied ts a r)

  replies_replied : (ts : List (Turn S C F)) (a : Asked S) (r : ReplyOf C F) →
      replies_in (ts ++ replied a r ∷ []) ≡ replies_in ts ++ r ∷ []
  replies_replied [] a r = refl
  replies_replied (refused s ∷ ts) a r = replies_replied ts a r
  replies_replied (replied x y ∷ ts) a r = ap (λ l. y ∷ l) (replies_replied ts a r)

  texts_push : (d : Dialect S C F) (ts : List (Turn S C F)) (t : Turn S C F) →
      texts_of d (ts ++ t ∷ []) ≡ texts_of d ts ++ response_text (turn_response d t)
  texts_push d [] t = append-nil (response_text (turn_response d t))
  texts_push d (u ∷ ts) t =
      ap (λ l. response_text (turn_response d u) ++ l) (texts_push d ts t)
      ∙ sym (append_assoc (response_text (turn_response d u)) (texts_of d ts) (response_text (turn_response d t)))

-- for callers: whatever the end, the site was asked something and replied so, perhaps nothing
module _ {S C F : Type 0} (d : Dialect S C F) (R : List (Asked S) → List (ReplyOf C F) → Type 0) where
  pub replied_by : (e : ConnEnd) (before after : Stream) → Ends d R e before after →
      (asked : List (Asked S)) × (replies : List (ReplyOf C F)) × R asked replies
  replied_by end.Closed before after x = (asked_in x.4.turns, replies_in x.4.turns, x.4.replies)
  replied_by (end.Bad why offset) before after x = (asked_in x.4.turns, replies_in x.4.turns, x.4.replies)
  replied_by end.ReadFault before after x = (asked_in x.4.turns, replies_in x.4.turns, x.4.replies)
  replied_by end.WriteFault before after x =
      (asked_in x.0.talked.turns, replies_in x.0.talked.turns, x.0.talked.replies)
  replied_by end.Memory before after x = (asked_in x.talked.turns, replies_in x.talked.turns, x.talked.replies)

-- ---- one request after another

module _ {S C F : Type 0} (meaning : Meaning S C F) (listed : Listed S) (d : Dialect S C F) where
  turn_replied : (p q now : Known S) (ts : List (Turn S C F)) (t : Turn S C F) →
      HasReplied meaning listed p q (asked_in ts) (replies_in ts) → Takes meaning listed t q now →
      length now.front ≤ now.terms.limit →
      HasReplied meaning listed p now (asked_in (ts ++ t ∷ [])) (replies_in (ts ++ t ∷ []))
  turn_replied p q now ts (refused why) done took few =
      subst₂ (λ xs ys. HasReplied meaning listed p now xs ys) (sym (asked_refused ts why)) (sym (replies_refused ts why))
      (subst (λ k. HasReplied meaning listed p k (asked_in ts) (replies_in ts)) (sym took) done)
  turn_replied p q now ts (replied a r) done took few =
      subst₂ (λ xs ys. HasReplied meaning listed p now xs ys) (sym (asked_replied ts a r)) (sym (replies_replied ts a r))
      (one_replied meaning listed p q now (asked_in ts) (replies_in ts) a r done took few)

  talk_read : (p q : Known S) (bytes rest due more : List ℕ) (rs : List HttpRequest) →
      HasTalked d (HasReplied meaning listed p q) bytes rest due rs →
      HasTalked d (HasReplied meaning listed p q) (bytes ++ more) (rest ++ more) due rs
  talk_read p q bytes rest due more rs talk = record {
    begins = begins_more bytes rest more rs talk.begins;
    turns = talk.turns;
    each = talk.each;
    replies = talk.replies;
    due_is = talk.due_is;
  }

  talk_more : (p q now : Known S) (bytes rest back due : List ℕ) (rs : List HttpRequest) (r : HttpRequest)
      (t : Turn S C F) → HasTalked d (HasReplied meaning listed p q) bytes rest due rs → HasNext rest r back →
      IsTurn d.asks r t → Takes meaning listed t q now → length now.front ≤ now.terms.limit →
      HasTalked d (HasReplied meaning listed p now) bytes back (due ++ response_text (turn_response d t))
      (rs ++ r ∷ [])
  talk_more p q now bytes rest back due rs r t talk next is took few = record {
    begins = begins_push bytes rest back rs r talk.begins next;
    turns = talk.turns ++ t ∷ [];
    each = zip_snoc (IsTurn d.asks) rs talk.turns r t talk.each is;
    replies = turn_replied p q now talk.turns t talk.replies took few;
    due_is = ap (λ l. l ++ response_text (turn_response d t)) talk.due_is ∙ sym (texts_push d talk.turns t);
  }

  nothing_talked : (p : Known S) → Legal meaning p.front → length p.front ≤ p.terms.limit →
      HasTalked d (HasReplied meaning listed p p) [] [] [] []
  nothing_talked p legal few = record {
    begins = refl;
    turns = [];
    each = tt;
    replies = none_replied meaning listed p legal few;
    due_is = refl;
  }

  -- nothing was read yet
  pub begun : (p : Known S) (s : Stream) → Legal meaning p.front → length p.front ≤ p.terms.limit →
      HasServed meaning listed d p p s s [] 0 0
  begun p s legal few = record {
    bytes = [];
    text = [];
    rs = [];
    talked = nothing_talked p legal few;
    traded = nothing_traded s;
    kept = none_kept d s;
    going = tt;
    count = refl;
    place = refl;
  }

  -- and nothing will be
  pub unbegun : (p : Known S) (s : Stream) → Legal meaning p.front → length p.front ≤ p.terms.limit →
      Ends d (HasReplied meaning listed p p) end.Memory s s
  unbegun p s legal few = record {
    bytes = [];
    rest = [];
    text = [];
    due = [];
    rs = [];
    talked = nothing_talked p legal few;
    traded = nothing_traded s;
    taken = inl (tt, omega arith);
    front = inl ([], refl);
  }

  module _ (p q : Known S) (before now : Stream) (rest : List ℕ) (offset answered : ℕ)
      (done : HasServed meaning listed d p q before now rest offset answered) (few_answers : answered < MOST_ANSWERS) where
    goes_on : GoOn done.rs
    goes_on = (done.going, omega (arith, done.count, few_answers))

    -- something was read, or nothing
    module _ (more : List ℕ) (mid : Stream) (read : HasRead more now mid) where
      read_on : HasTalked d (HasReplied meaning listed p q) (done.bytes ++ more) (rest ++ more) done.text done.rs
      read_on = talk_read p q done.bytes rest done.text more done.rs done.talked

      place_on : length (done.bytes ++ more) ≡ offset + length (rest ++ more)
      place_on = let one = length-append done.bytes more in let two = length-append rest more in
          omega (arith, one, two, done.place)

      traded_on : HasTraded (done.bytes ++ more) done.text before mid
      traded_on = traded_then_read done.traded read

      rose_on : (after : Stream) → Rose mid.faults after.faults → Rose before.faults after.faults
      rose_on after rose = Rose-after before.faults mid.faults after.faults
          (omega (arith, done.traded.later, read.later)) rose

      pub no_memory : Ends d (HasReplied meaning listed p q) end.Memory before mid
      no_memory = record {
        bytes = done.bytes ++ more;
        rest = rest ++ more;
        text = done.text;
        due = done.text;
        rs = done.rs;
        talked = read_on;
        traded = traded_on;
        taken = inl goes_on;
        front = inl ([], sym (append-nil done.text));
      }

      stopped : (after : Stream) (why : H) → Refuses why (rest ++ more) (mid.left ≡ Some []) →
          HasBegun (refusal_text why) mid after → HasStopped d (HasReplied meaning listed p q) before after
      stopped after why refuses begun = record {
        bytes = done.bytes ++ more;
        rest = rest ++ more;
        text = done.text ++ begun.0;
        due = done.text;
        rs = done.rs;
        talked = read_on;
        traded = traded_then_written traded_on begun.3;
        taken = inl goes_on;
        front = inr (
          why,
          goes_on,
          subst (λ l. Refuses why (rest ++ more) (l ≡ Some [])) (sym begun.3.left) refuses,
          (begun.1, ap (λ l. done.text ++ l) begun.2 ∙ sym (append_assoc done.text begun.0 begun.1)),
        );
      }

      -- the refusal, or what was written of it
      refused_with : (after : Stream) (why : H) (e : ConnEnd) → Refuses why (rest ++ more) (mid.left ≡ Some []) →
          EndsRefused why offset e mid after → Ends d (HasReplied meaning listed p q) e before after
      refused_with after why end.Closed refuses ends = absurd ends
      refused_with after why end.ReadFault refuses ends = absurd ends
      refused_with after why (end.Bad said at) refuses ends =
          subst₂ (λ w n. Ends d (HasReplied meaning listed p q) (end.Bad w n) before after) (sym ends.0) (sym ends.1) (
            done.bytes ++ more,
            rest ++ more,
            done.text,
            done.rs,
            read_on,
            traded_then_written traded_on ends.2,
            goes_on,
            subst (λ l. Refuses why (rest ++ more) (l ≡ Some [])) (sym ends.2.left) refuses,
            place_on,
          )
      refused_with after why end.WriteFault refuses ends =
          (stopped after why refuses ends.0, rose_on after ends.1)
      refused_with after why end.Memory refuses ends = stopped after why refuses ends

    -- memory was wanting to read on
    pub lost_promptly : (mid : Stream) → HasLost HasNone rest now mid → IsPrompt d before mid
    lost_promptly mid (more, read, drawn) =
        prompt_so d (done.bytes ++ more) done.text before mid (kept_read d more before now mid done.talked done.kept drawn)

    -- what was gathered of it
    module _ (bytes : List ℕ) (mid : Stream) (got : HasGathered HasNone rest bytes now mid) where
      kept_now : Since (Kept (AllAnswered d) (done.bytes ++ got.more) done.text) before.events mid.events
      kept_now = kept_read d got.more before now mid done.talked done.kept got.drawn

      -- nothing was written behind it, or a refusal, or a text or a front of it
      pub read_promptly : IsPrompt d before mid
      read_promptly = prompt_so d (done.bytes ++ got.more) done.text before mid kept_now

      pub refused_promptly : (after : Stream) (why : H) (at : ℕ) (e : ConnEnd) → EndsRefused why at e mid after →
          IsPrompt d before after
      refused_promptly after why at e ends =
          prompt_refused d (done.bytes ++ got.more) done.text before mid after why at e kept_now ends

      pub written_promptly : (text : List ℕ) (after : Stream) → HasWritten text mid after → IsPrompt d before after
      written_promptly text after written =
          prompt_so d (done.bytes ++ got.more) (done.text ++ text) before after
          (kept_written d (done.bytes ++ got.more) done.text text before mid after kept_now written)

      pub begun_promptly : (text : List ℕ) (after : Stream) → HasBegun text mid after → IsPrompt d before after
      begun_promptly text after begun = written_promptly begun.0 after begun.3

      -- the input ended behind all requests
      pub ended : bytes ≡ [] → mid.left ≡ Some [] → Ends d (HasReplied meaning listed p q) end.Closed before mid
      ended none left = (
        done.bytes ++ got.more,
        rest ++ got.more,
        done.text,
        done.rs,
        read_on got.more mid got.read,
        traded_on got.more mid got.read,
        inl (goes_on, sym got.grown ∙ none, left),
      )

      pub read_failed : IsOpen bytes → Rose now.faults mid.faults →
          Ends d (HasReplied meaning listed p q) end.ReadFault before mid
      read_failed open_ rose = (
        done.bytes ++ got.more,
        rest ++ got.more,
        done.text,
        done.rs,
        read_on got.more mid got.read,
        traded_on got.more mid got.read,
        goes_on,
        subst IsOpen got.grown open_,
        Rose-after before.faults now.faults mid.faults done.traded.later rose,
      )

      pub refused_at : (after : Stream) (why : H) (e : ConnEnd) → Refuses why bytes (mid.left ≡ Some []) →
          EndsRefused why offset e mid after → Ends d (HasReplied meaning listed p q) e before after
      refused_at after why e refuses ends =
          refused_with got.more mid got.read after why e
          (subst (λ l. Refuses why l (mid.left ≡ Some [])) got.grown refuses) ends

      -- a request was read
      module _ (request : HttpRequest) (back : List ℕ) (next : HasNext bytes request back) (q' : Known S)
          (few : length q'.front ≤ q'.terms.limit) where
        came : (t : Turn S C F) → IsTurn d.asks request t → Takes meaning listed t q q' →
            HasTalked d (HasReplied meaning listed p q') (done.bytes ++ got.more) back
            (done.text ++ response_text (turn_response d t)) (done.rs ++ request ∷ [])
        came t is took = talk_more p q q' (done.bytes ++ got.more) (rest ++ got.more) back done.text done.rs request t
            (read_on got.more mid got.read) (subst (λ l. HasNext l request back) got.grown next) is took few

        -- and not answered for want of memory
        pub unanswered : {M : Type 0} (e : M) → Responds meaning listed d request (Err e) q q' →
            Ends d (HasReplied meaning listed p q') end.Memory before mid
        unanswered e (inl same) = subst (λ k. Ends d (HasReplied meaning listed p k) end.Memory before mid) (sym same)
            (no_memory got.more mid got.read)
        unanswered e (inr (t, is, took)) = record {
          bytes = done.bytes ++ got.more;
          rest = back;
          text = done.text;
          due = done.text ++ response_text (turn_response d t);
          rs = done.rs ++ request ∷ [];
          talked = came t is took;
          traded = traded_on got.more mid got.read;
          taken = inr (done.rs, request, refl, goes_on);
          front = inl (response_text (turn_response d t), refl);
        }

        module _ (M : Type 0) (response : HttpResponse) (responds : Responds meaning listed {M = M} d request (Ok response) q q')
            (after : Stream) where
          due : HasTalked d (HasReplied meaning listed p q') (done.bytes ++ got.more) back
              (done.text ++ response_text response) (done.rs ++ request ∷ [])
          due = subst (λ x. HasTalked d (HasReplied meaning listed p q') (done.bytes ++ got.more) back
              (done.text ++ response_text x) (done.rs ++ request ∷ [])) (sym responds.3)
              (came responds.0 responds.1 responds.2)

          -- the response was not written, or a front of it
          pub not_written : HasBegun (response_text response) mid after →
              Ends d (HasReplied meaning listed p q') end.Memory before after
          not_written begun = record {
            bytes = done.bytes ++ got.more;
            rest = back;
            text = done.text ++ begun.0;
            due = done.text ++ response_text response;
            rs = done.rs ++ request ∷ [];
            talked = due;
            traded = traded_then_written (traded_on got.more mid got.read) begun.3;
            taken = inr (done.rs, request, refl, goes_on);
            front = inl (begun.1, ap (λ l. done.text ++ l) begun.2 ∙ sym (append_assoc done.text begun.0 begun.1));
          }

          pub write_failed : HasBegun (response_text response) mid after → Rose mid.faults after.faults →
              Ends d (HasReplied meaning listed p q') end.WriteFault before after
          write_failed begun rose = (not_written begun, rose_on got.more mid got.read after rose)

          -- it was, and it is the last
          pub closed : HasWritten (response_text response) mid after → request.close ≡ true →
              Ends d (HasReplied meaning listed p q') end.Closed before after
          closed written asks_end = (
            done.bytes ++ got.more,
            back,
            done.text ++ response_text response,
            done.rs ++ request ∷ [],
            due,
            traded_then_written (traded_on got.more mid got.read) written,
            inr (done.rs, request, refl, goes_on, inl asks_end),
          )

          -- or more may follow
          pub answered_one : HasWritten (response_text response) mid after → request.close ≡ false →
              HasServed meaning listed d p q' before after back (offset + request.size) (answered + 1)
          answered_one written open_ = record {
            bytes = done.bytes ++ got.more;
            text = done.text ++ response_text response;
            rs = done.rs ++ request ∷ [];
            talked = due;
            traded = traded_then_written (traded_on got.more mid got.read) written;
            kept = kept_written d (done.bytes ++ got.more) done.text (response_text response) before mid after kept_now written;
            going = open_push done.rs request done.going open_;
            count = let sum = length-append done.rs (request ∷ []) in omega (arith, sum, done.count);
            place = let here = place_on got.more mid got.read in let grown = ap length got.grown in
                let sum = length-append next.0 back in let is = ap length next.2 in
                omega (arith, here, grown, sum, is, next.1.size);
          }

  pub served_promptly : (p q : Known S) (before now : Stream) (rest : List ℕ) (offset answered : ℕ) →
      HasServed meaning listed d p q before now rest offset answered → IsPrompt d before now
  served_promptly p q before now rest offset answered done = prompt_so d done.bytes done.text before now done.kept

  -- no more are answered
  pub enough : (p q : Known S) (before now : Stream) (rest : List ℕ) (offset answered : ℕ) →
      HasServed meaning listed d p q before now rest offset answered → answered ≡ MOST_ANSWERS →
      Ends d (HasReplied meaning listed p q) end.Closed before now
  enough p q before now rest offset answered done all =
      let last = last_of done.rs done.going (omega (arith, done.count, all)) in (
        done.bytes,
        rest,
        done.text,
        done.rs,
        done.talked,
        done.traded,
        inr (last.0, last.1, last.2, (last.3, omega (arith, last.4, done.count, all)), inr (done.count ∙ all)),
      )
