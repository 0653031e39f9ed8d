-- The responses to what the site replies, to requests that ask nothing of it, and to faulty messages.
use Rattle.std.specs.Prelude.{ℕ, codes, List, [], ◌∷◌, ◌++◌, Some, None}
use Rattle.std.specs.Fmt.{decimal}
use Rattle.site_core.specs.Asked.{Asked, compile, plain}
use Rattle.site_core.specs.declared.reply.ReplyOf.{ReplyOf}
use Rattle.site_core.specs.declared.reply.ReplyOf.TheVariants as a
use Rattle.http_wire.specs.declared.request.H.{H}
use Rattle.http_wire.specs.declared.request.H.TheVariants as h
use Rattle.http_wire.specs.declared.response.HttpResponse.{HttpResponse}
use Rattle.http_wire.specs.Responses.{response_text}
use Rattle.site_serve.specs.declared.refusal.Refusal.{Refusal}
use Rattle.site_serve.specs.declared.refusal.Refusal.TheVariants as why

-- with a body of one line
abbrev pub says : ℕ → List ℕ → HttpResponse
says status line = record { status = status; entry = None; k = None; body = line ++ 10 ∷ [] }

abbrev pub refusal_response : Refusal → HttpResponse
refusal_response why.Path = says 404 (codes "path")
refusal_response why.Method = says 405 (codes "method")
refusal_response why.Seen = says 400 (codes "bad seen")
refusal_response why.Facts = says 400 (codes "bad facts")
refusal_response why.Site = says 400 (codes "bad site")
refusal_response why.Report = says 400 (codes "bad report")

-- how many entries the request says that its sender has seen
abbrev pub seen_of : {S : Type 0} → Asked S → ℕ
seen_of (compile w) = w.seen
seen_of (plain what) = 0

-- ---- replies

abbrev pub served_response : ℕ → ℕ → List ℕ → HttpResponse
served_response entry k catalog = record (record (says 200 catalog) { entry = Some entry }) { k = Some k }

abbrev pub refused_response : ℕ → List ℕ → HttpResponse
refused_response k fault = record (says 422 fault) { k = Some k }

abbrev pub full_response : ℕ → HttpResponse
full_response length = says 503 (codes "full " ++ decimal length)

abbrev pub ahead_response : ℕ → ℕ → HttpResponse
ahead_response seen length = says 409 (codes "seen " ++ (decimal seen ++ (codes " length " ++ decimal length)))

-- the request came to this entry
abbrev pub names_entry : ℕ → HttpResponse
names_entry entry = record (says 200 (codes "entry " ++ decimal entry)) { entry = Some entry }

-- by the texts of catalogs and faults
module _ {C F : Type 0} (catalog : C → List ℕ) (fault : F → List ℕ) where
  abbrev pub reply_response : ℕ → ReplyOf C F → HttpResponse
  reply_response seen (a.Served entry k c) = served_response entry k (catalog c)
  reply_response seen (a.Refused k f) = refused_response k (fault f)
  reply_response seen (a.UnknownNode k) = says 404 (codes "unknown node")
  reply_response seen (a.SeenAhead length) = ahead_response seen length
  reply_response seen (a.HistoryFull length) = full_response length
  reply_response seen (a.Deactivated entry) = names_entry entry
  reply_response seen (a.Deployed entry) = names_entry entry
  reply_response seen (a.Reported entry) = names_entry entry
  reply_response seen a.Memory = says 503 (codes "memory")

-- ---- faulty messages

-- how a faulty message is answered; one that the end of the input cuts off is not
abbrev pub refusal_text : H → List ℕ
refusal_text h.BadHead = response_text (says 400 (codes "H1"))
refusal_text h.BadLength = response_text (says 400 (codes "H2"))
refusal_text h.TooLarge = response_text (says 413 (codes "H3"))
refusal_text h.Truncated = []
