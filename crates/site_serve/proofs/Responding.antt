-- What a request comes to, and how a faulty message is answered.
use Rattle.std.proofs.Common.{◌≡◌, ◌⊎◌, inl, inr, ℕ, List, [], ◌∷◌, ◌++◌, Option, Some, None, refl, sym, ap, ◌∙◌, subst}
use Rattle.std.specs.Prelude.{Result, Ok, Err, IfOk, codes}
use Rattle.site_io.specs.Stream.{Stream, Rose, HasWritten}
use Rattle.site_io.proofs.Streams.{nothing_written}
use Rattle.site_core.specs.Asked.{Asked}
use Rattle.site_core.specs.Meaning.{Meaning}
use Rattle.site_core.specs.Fits.{Listed}
use Rattle.site_core.specs.declared.reply.ReplyOf.{ReplyOf}
use Rattle.shared_site.specs.Known.{Known, IsAnswered}
use Rattle.http_wire.specs.Responses.{response_text, HasBegun, WritesText}
use Rattle.http_wire.specs.declared.request.H.{H}
use Rattle.http_wire.specs.declared.request.H.TheVariants as h
use Rattle.http_wire.specs.declared.request.HttpRequest.{HttpRequest}
use Rattle.http_wire.specs.declared.response.HttpResponse.{HttpResponse}
use Rattle.http_wire.specs.declared.response.WriteStop.{WriteStop}
use Rattle.http_wire.specs.declared.response.WriteStop.TheVariants as write
use Rattle.site_serve.specs.Requests.{Reading}
use Rattle.site_serve.specs.Replies.{says, seen_of, refusal_response, reply_response, refusal_text}
use Rattle.site_serve.specs.Ends.{Turn, refused, replied, Dialect, IsTurn, turn_response}
use Rattle.site_serve.specs.Steps.{ReadsBy, IsRefused, faulty_response, EndsRefused, Takes, HasReply, Responds}
use Rattle.site_serve.specs.declared.ask_stop.AskStop.{AskStop}
use Rattle.site_serve.specs.declared.ask_stop.AskStop.TheVariants as stop
use Rattle.site_serve.specs.declared.conn_end.ConnEnd.{ConnEnd}
use Rattle.site_serve.specs.declared.conn_end.ConnEnd.TheVariants as end
use Rattle.site_serve.specs.declared.refusal.Refusal.{Refusal}

module _ {S C F M : Type 0} (meaning : Meaning S C F) (listed : Listed S) where
  pub has_reply : (catalog : C → List ℕ) (fault : F → List ℕ) (asked : Asked S) (seen : ℕ) (reply : ReplyOf C F)
      (result : Result HttpResponse M) (p q : Known S) → seen ≡ seen_of asked →
      IsAnswered meaning listed asked reply p q →
      IfOk result (λ response. response ≡ reply_response catalog fault seen reply) →
      HasReply meaning listed catalog fault asked result p q
  has_reply catalog fault asked seen reply (Ok response) p q told answered is =
      (reply, answered, is ∙ ap (λ n. reply_response catalog fault n reply) told)
  has_reply catalog fault asked seen reply (Err memory) p q told answered is = (reply, answered)

  -- what it asked of the site had a reply
  pub responds_by : (d : Dialect S C F) (request : HttpRequest) (asked : Asked S) (result : Result HttpResponse M)
      (p q : Known S) → d.asks request (Ok asked) → HasReply meaning listed d.catalog d.fault asked result p q →
      Responds meaning listed d request result p q
  responds_by d request asked (Ok response) p q asks (reply, answered, is) = (replied asked reply, asks, answered, is)
  responds_by d request asked (Err memory) p q asks (reply, answered) = inr (replied asked reply, asks, answered)

  -- it asks nothing
  pub responds_refused : {A : Type 0} (d : Dialect S C F) (shown : A → Asked S) (request : HttpRequest) (s : AskStop)
      (why : Refusal) (result : Result HttpResponse M) (p q : Known S) → s ≡ stop.Refused why →
      ReadsBy shown (Err s) (d.asks request) → q ≡ p → IfOk result (λ response. response ≡ refusal_response why) →
      Responds meaning listed d request result p q
  responds_refused d shown request s why (Ok response) p q is asks same said =
      (refused why, subst (λ x. IsRefused x (d.asks request)) is asks, same, said)
  responds_refused d shown request s why (Err memory) p q is asks same said = inl same

-- ---- faulty messages

pub faulty_text : (why : H) (response : HttpResponse) → faulty_response why ≡ Some response →
    response_text response ≡ refusal_text why
faulty_text h.BadHead response is = let e : says 400 (codes "H1") ≡ response = cc (is) in ap response_text (sym e)
faulty_text h.BadLength response is = let e : says 400 (codes "H2") ≡ response = cc (is) in ap response_text (sym e)
faulty_text h.TooLarge response is = let e : says 413 (codes "H3") ≡ response = cc (is) in ap response_text (sym e)
faulty_text h.Truncated response is = absurd (cc is)

none_due : (why : H) → faulty_response why ≡ None → refusal_text why ≡ []
none_due h.BadHead is = absurd (cc is)
none_due h.BadLength is = absurd (cc is)
none_due h.TooLarge is = absurd (cc is)
none_due h.Truncated is = refl

-- it is not answered
pub not_answered : (why : H) (o : Option HttpResponse) (offset : ℕ) (s : Stream) → o ≡ faulty_response why → o ≡ None →
    EndsRefused why offset (end.Bad why offset) s s
not_answered why o offset s is none =
    (refl, refl, subst (λ l. HasWritten l s s) (sym (none_due why (sym is ∙ none))) (nothing_written s))

pub no_response : (why : H) (offset : ℕ) (s : Stream) → EndsRefused why offset end.Memory s s
no_response why offset s = ([], refusal_text why, refl, nothing_written s)

module _ (why : H) (o : Option HttpResponse) (response : HttpResponse) (offset : ℕ) (before after : Stream)
    (is : o ≡ faulty_response why) (some : o ≡ Some response) where
  text_is : response_text response ≡ refusal_text why
  text_is = faulty_text why response (sym is ∙ some)

  pub was_answered : HasWritten (response_text response) before after →
      EndsRefused why offset (end.Bad why offset) before after
  was_answered written = (refl, refl, subst (λ l. HasWritten l before after) text_is written)

  pub answer_failed : (s : WriteStop) → s ≡ write.WriteFault →
      WritesText {U = Unit {0}} (response_text response) (Err s) before after →
      EndsRefused why offset end.WriteFault before after
  answer_failed s fault writes =
      subst (λ l. HasBegun l before after × Rose before.faults after.faults) text_is
      (subst (λ x. WritesText {U = Unit {0}} (response_text response) (Err x) before after) fault writes)

  pub answer_stopped : (s : WriteStop) → s ≡ write.Memory →
      WritesText {U = Unit {0}} (response_text response) (Err s) before after →
      EndsRefused why offset end.Memory before after
  answer_stopped s memory writes =
      subst (λ l. HasBegun l before after) text_is
      (subst (λ x. WritesText {U = Unit {0}} (response_text response) (Err x) before after) memory writes)
