-- Reads and writes of a connection, in their order.
use Rattle.std.proofs.Common.{◌≡◌, ℕ, List, [], ◌∷◌, ◌++◌, refl, sym, ap, ◌∙◌, subst, append_assoc}
use Rattle.site_io.specs.Events.{Since, Kept}
use Rattle.site_io.specs.Stream.{Stream, HasWritten}
use Rattle.site_io.proofs.Events.{nothing_kept, kept_each, kept_drawn, kept_sent}
use Rattle.site_core.specs.Asked.{Asked}
use Rattle.site_core.specs.declared.reply.ReplyOf.{ReplyOf}
use Rattle.http_wire.specs.Messages.{HasNone, Begins}
use Rattle.http_wire.specs.Reading.{HasDrawn}
use Rattle.http_wire.specs.declared.request.H.{H}
use Rattle.http_wire.specs.declared.request.HttpRequest.{HttpRequest}
use Rattle.site_serve.specs.Replies.{refusal_text}
use Rattle.site_serve.specs.Ends.{Dialect, AllAnswered, IsPrompt, HasTalked}
use Rattle.site_serve.specs.Steps.{EndsRefused}
use Rattle.site_serve.specs.declared.conn_end.ConnEnd.{ConnEnd}
use Rattle.site_serve.specs.declared.conn_end.ConnEnd.TheVariants as end

-- What the requests are cut from, and that whatever stands behind it is the rest.
front_of : (bytes rest : List ℕ) (rs : List HttpRequest) → Begins bytes rs rest →
    (front : List ℕ) × (bytes ≡ front ++ rest) × ((next : List ℕ) → Begins (front ++ next) rs next)
front_of bytes rest [] is = ([], is, λ next. refl)
front_of bytes rest (r ∷ rs) (back, (front, message, cut), begins) =
    let behind = front_of back rest rs begins in (
      front ++ behind.0,
      cut ∙ ap (λ l. front ++ l) behind.1 ∙ sym (append_assoc front behind.0 rest),
      λ next. (behind.0 ++ next, (front, message, append_assoc front behind.0 next), behind.2 next),
    )

module _ {S C F : Type 0} (d : Dialect S C F) where
  pub none_kept : (s : Stream) → Since (Kept (AllAnswered d) [] []) s.events s.events
  none_kept s = nothing_kept (AllAnswered d) s.events

  -- so far, and for good
  pub prompt_so : (bytes text : List ℕ) (s t : Stream) → Since (Kept (AllAnswered d) bytes text) s.events t.events →
      IsPrompt d s t
  prompt_so bytes text s t kept = kept_each (AllAnswered d) bytes text s.events t.events kept

  pub nothing_promptly : (s : Stream) → IsPrompt d s s
  nothing_promptly s = prompt_so [] [] s s (none_kept s)

  -- what is written keeps it
  pub kept_written : (bytes text last : List ℕ) (s t u : Stream) →
      Since (Kept (AllAnswered d) bytes text) s.events t.events → HasWritten last t u →
      Since (Kept (AllAnswered d) bytes (text ++ last)) s.events u.events
  kept_written bytes text last s t u kept written =
      kept_sent (AllAnswered d) bytes text last s.events t.events u.events kept written.events

  -- A read that was made where no request is at hand was made where all requests are answered.
  pub kept_read : {R : List (Asked S) → List (ReplyOf C F) → Type 0} {bytes rest text : List ℕ} {rs : List HttpRequest}
      (more : List ℕ) (s t u : Stream) → HasTalked d R bytes rest text rs →
      Since (Kept (AllAnswered d) bytes text) s.events t.events → HasDrawn HasNone rest more t u →
      Since (Kept (AllAnswered d) (bytes ++ more) text) s.events u.events
  kept_read {R} {bytes} {rest} {text} {rs} more s t u talk kept drawn =
      let front = front_of bytes rest rs talk.begins in
      subst (λ l. Since (Kept (AllAnswered d) (l ++ more) text) s.events u.events) (sym front.1)
      (kept_drawn (AllAnswered d) HasNone front.0 rest text more s.events t.events u.events
      (λ next none. (rs, rest ++ next, talk.turns, front.2 (rest ++ next), none, talk.each, talk.due_is))
      (subst (λ l. Since (Kept (AllAnswered d) l text) s.events t.events) front.1 kept) drawn)

  -- a refusal, or what was written of it
  pub prompt_refused : (bytes text : List ℕ) (s t u : Stream) (why : H) (offset : ℕ) (e : ConnEnd) →
      Since (Kept (AllAnswered d) bytes text) s.events t.events → EndsRefused why offset e t u → IsPrompt d s u
  prompt_refused bytes text s t u why offset end.Closed kept ends = absurd ends
  prompt_refused bytes text s t u why offset end.ReadFault kept ends = absurd ends
  prompt_refused bytes text s t u why offset (end.Bad said at) kept ends =
      prompt_so bytes (text ++ refusal_text why) s u (kept_written bytes text (refusal_text why) s t u kept ends.2)
  prompt_refused bytes text s t u why offset end.WriteFault kept ends =
      prompt_so bytes (text ++ ends.0.0) s u (kept_written bytes text ends.0.0 s t u kept ends.0.3)
  prompt_refused bytes text s t u why offset end.Memory kept ends =
      prompt_so bytes (text ++ ends.0) s u (kept_written bytes text ends.0 s t u kept ends.3)
