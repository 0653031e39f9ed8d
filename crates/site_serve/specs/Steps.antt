-- What routing, reading a request, answering it and writing the response do.
use Rattle.std.specs.Prelude.{◌≡◌, ◌⊎◌, ⊤, ℕ, ◌+◌, Bool, true, codes, List, [], ◌∷◌, ◌++◌, length, Option, Some, None}
use Rattle.std.specs.Prelude.{option_map, Result, Ok, Err}
use Rattle.matchit.specs.Rows.{RowsOf, param_token}
use Rattle.matchit.specs.Router.{RouteOf}
use Rattle.matchit.specs.Seek.{first}
use Rattle.res_core.specs.AskedFacts.{has_facts}
use Rattle.res_core.specs.RequestViews.{wanted}
use Rattle.agent_machine.specs.declared.report.Report.{Report}
use Rattle.site_io.specs.Events.{Since, Kept}
use Rattle.site_io.specs.Stream.{Stream, Rose, HasWritten, HasTraded}
use Rattle.site_core.specs.Asked.{Asked, compile, plain, filed}
use Rattle.site_core.specs.Meaning.{Meaning}
use Rattle.site_core.specs.Fits.{Listed}
use Rattle.site_core.specs.declared.plain.Plain.TheVariants as ask
use Rattle.site_core.specs.declared.reply.ReplyOf.{ReplyOf}
use Rattle.shared_site.specs.Known.{Known, IsAnswered}
use Rattle.http_wire.specs.Responses.{response_text, HasBegun}
use Rattle.http_wire.specs.declared.request.H.{H}
use Rattle.http_wire.specs.declared.request.H.TheVariants as h
use Rattle.http_wire.specs.declared.request.HttpRequest.{HttpRequest}
use Rattle.http_wire.specs.declared.response.HttpResponse.{HttpResponse}
use Rattle.site_serve.specs.Endpoints.{node_behind, site_at}
use Rattle.site_serve.specs.Requests.{Reading, IsSent}
use Rattle.site_serve.specs.Replies.{says, seen_of, reply_response, refusal_text}
use Rattle.site_serve.specs.Ends.{Turn, refused, replied, Dialect, IsTurn, turn_response, HasReplied, HasTalked}
use Rattle.site_serve.specs.Ends.{AllAnswered, AllOpen}
use Rattle.site_serve.specs.declared.ask_stop.AskStop.{AskStop}
use Rattle.site_serve.specs.declared.ask_stop.AskStop.TheVariants as stop
use Rattle.site_serve.specs.declared.call.Call.{Call}
use Rattle.site_serve.specs.declared.call.Call.TheVariants as call
use Rattle.site_serve.specs.declared.conn_end.ConnEnd.{ConnEnd}
use Rattle.site_serve.specs.declared.conn_end.ConnEnd.TheVariants as end
use Rattle.site_serve.specs.declared.endpoint.Endpoint.{Endpoint}
use Rattle.site_serve.specs.declared.endpoint.Endpoint.TheVariants as at
use Rattle.site_serve.specs.declared.routes.Route.{Route}
use Rattle.site_serve.specs.declared.routes.Route.TheVariants as route

-- ---- routes

-- a front with the name of a node behind it; the name's place in the route's text is between these two
abbrev pub node_route : List ℕ → List ℕ → ℕ × ℕ → Route → List ℕ × RouteOf Route
node_route front text name value = (
  front ++ param_token ∷ [],
  record { pattern = front ++ param_token ∷ []; text = text; names = name ∷ []; value = value },
)

abbrev pub site_route : List ℕ × RouteOf Route
site_route = (codes "/site", record { pattern = codes "/site"; text = codes "/site"; names = []; value = route.Site })

abbrev pub known_routes : RowsOf (RouteOf Route)
known_routes =
    node_route (codes "/catalog/") (codes "/catalog/{node}") (10, 14) route.Catalog
    ∷ node_route (codes "/node/") (codes "/node/{node}") (7, 11) route.Node
    ∷ node_route (codes "/report/") (codes "/report/{node}") (9, 13) route.Report
    ∷ site_route ∷ []

-- which route a path has
abbrev pub route_of : List ℕ → Option Route
route_of path = option_map (λ r. r.value) (first known_routes path)

-- what a path names that has this route
abbrev pub named_by : Option Route → List ℕ → Option Endpoint
named_by (Some route.Catalog) path = option_map at.Catalog (node_behind (codes "/catalog/") path)
named_by (Some route.Node) path = option_map at.Node (node_behind (codes "/node/") path)
named_by (Some route.Report) path = option_map at.Report (node_behind (codes "/report/") path)
named_by (Some route.Site) path = site_at path
named_by None path = None

-- ---- what is asked

abbrev pub asked : {S : Type 0} → Call S → Asked S
asked (call.Compile request) = compile (wanted request)
asked (call.Deactivate node) = plain (ask.Deactivate node)
asked (call.Deploy site) = plain (ask.Deploy site)
asked (call.File report) = plain (filed report)

-- what is meant is this refusal, unless memory ran out
abbrev pub IsRefused : {A : Type 0} → AskStop → (Reading A → Type 0) → Type 0
IsRefused (stop.Refused why) Meant = Meant (Err why)
IsRefused stop.Memory Meant = ⊤

-- what was read is meant, where a value is seen as `shown` says, unless memory ran out
abbrev pub ReadsBy : {A B : Type 0} → (A → B) → Result A AskStop → (Reading B → Type 0) → Type 0
ReadsBy shown (Ok x) Meant = Meant (Ok (shown x))
ReadsBy shown (Err s) Meant = IsRefused s Meant

-- where just this is meant
abbrev pub ReadsAs : {A B : Type 0} → (A → B) → Result A AskStop → Reading B → Type 0
ReadsAs shown result meant = ReadsBy shown result (λ r. meant ≡ r)

-- the report that is sent, if one is
abbrev pub ReadsSent : {M : Type 0} → List ℕ → Result (Option Report) M → Type 0
ReadsSent body (Ok (Some report)) = IsSent body report
ReadsSent body (Ok None) = (report : Report) → IsSent body report → ⊥
ReadsSent body (Err memory) = ⊤

-- facts that are sent are facts
abbrev pub gives_facts : {S : Type 0} → Asked S → Bool
gives_facts (compile w) = has_facts w.facts
gives_facts (plain what) = true

-- ---- responses

-- the response to a faulty message, where there is one
abbrev pub faulty_response : H → Option HttpResponse
faulty_response h.BadHead = Some (says 400 (codes "H1"))
faulty_response h.BadLength = Some (says 400 (codes "H2"))
faulty_response h.TooLarge = Some (says 413 (codes "H3"))
faulty_response h.Truncated = None

-- how a connection ends with a refusal
abbrev pub EndsRefused : H → ℕ → ConnEnd → Stream → Stream → Type 0
EndsRefused why offset end.Closed before after = ⊥
EndsRefused why offset (end.Bad said at) before after =
    (said ≡ why) × (at ≡ offset) × HasWritten (refusal_text why) before after
EndsRefused why offset end.ReadFault before after = ⊥
EndsRefused why offset end.WriteFault before after =
    HasBegun (refusal_text why) before after × Rose before.faults after.faults
EndsRefused why offset end.Memory before after = HasBegun (refusal_text why) before after

module _ {S C F : Type 0} (meaning : Meaning S C F) (listed : Listed S) where
  -- what a turn does for the pass
  abbrev pub Takes : Turn S C F → Known S → Known S → Type 0
  Takes (refused why) p q = q ≡ p
  Takes (replied asked reply) p q = IsAnswered meaning listed asked reply p q

  -- the site was asked this, and the response tells its reply, unless memory was wanting
  abbrev pub HasReply : {M : Type 0} → (C → List ℕ) → (F → List ℕ) → Asked S → Result HttpResponse M → Known S →
      Known S → Type 0
  HasReply catalog fault asked (Ok response) p q =
      (reply : ReplyOf C F) × IsAnswered meaning listed asked reply p q
      × (response ≡ reply_response catalog fault (seen_of asked) reply)
  HasReply catalog fault asked (Err memory) p q =
      (reply : ReplyOf C F) × IsAnswered meaning listed asked reply p q

  -- The request came to a turn, of which the response tells. Where memory was wanting, it came to one or to nothing.
  abbrev pub Responds : {M : Type 0} → Dialect S C F → HttpRequest → Result HttpResponse M → Known S → Known S → Type 0
  Responds d request (Ok response) p q =
      (t : Turn S C F) × IsTurn d.asks request t × Takes t p q × (response ≡ turn_response d t)
  Responds d request (Err memory) p q = (q ≡ p) ⊎ ((t : Turn S C F) × IsTurn d.asks request t × Takes t p q)

  -- all requests so far were answered, and what was read behind them is the rest
  pub record HasServed (d : Dialect S C F) (p q : Known S) (before now : Stream) (rest : List ℕ) (offset answered : ℕ)
      : Type 0 where
    pub bytes : List ℕ
    pub text : List ℕ
    pub rs : List HttpRequest
    pub talked : HasTalked d (HasReplied meaning listed p q) bytes rest text rs
    pub traded : HasTraded bytes text before now
    pub kept : Since (Kept (AllAnswered d) bytes text) before.events now.events
    pub going : AllOpen rs
    pub count : length rs ≡ answered
    pub place : length bytes ≡ offset + length rest
