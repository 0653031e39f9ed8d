-- What requests ask of a site, and how those are refused that ask nothing.
use Rattle.std.specs.Prelude.{◌≡◌, ◌≢◌, ◌⊎◌, ℕ, Bool, true, false, ◌==◌, if◌then◌else◌, nat_eq, codes, List, [], ◌∷◌}
use Rattle.std.specs.Prelude.{Option, Some, None, option_map, option_and_then, Result, Ok, Err}
use Rattle.std.specs.Option.{ok_or}
use Rattle.std.specs.Str.{is_utf8, IsUtf8}
use Rattle.std.specs.Cmp.Lexicographic.{pointwise}
use Rattle.serde_json.specs.Read.{read}
use Rattle.pp_values.specs.Answers.{and_then}
use Rattle.pp_values.specs.Datum.{Datum}
use Rattle.res_core.specs.Asked.{Wanted}
use Rattle.agent_machine.specs.declared.report.Report.{Report}
use Rattle.agent_docs.specs.ReportText.{IsReportText}
use Rattle.site_bundle.specs.GivenFacts.{given_facts}
use Rattle.site_core.specs.Asked.{Asked, compile, plain, filed}
use Rattle.site_core.specs.declared.plain.Plain.TheVariants as ask
use Rattle.http_wire.specs.Fields.{number}
use Rattle.http_wire.specs.declared.request.HttpRequest.{HttpRequest}
use Rattle.site_serve.specs.Endpoints.{endpoint_of, method_of}
use Rattle.site_serve.specs.declared.endpoint.Endpoint.{Endpoint}
use Rattle.site_serve.specs.declared.endpoint.Endpoint.TheVariants as at
use Rattle.site_serve.specs.declared.refusal.Refusal.{Refusal}
use Rattle.site_serve.specs.declared.refusal.Refusal.TheVariants as why

-- what is asked, or why nothing is
abbrev pub Reading : Type 0 → Type 0
Reading A = Result A Refusal

-- ---- how many entries the sender has seen

-- The decimal number of 32 bits that is written so, without a sign. No number of several digits begins with `0`.
abbrev pub seen_number : List ℕ → Option ℕ
seen_number [] = None
seen_number (b ∷ []) = number (b ∷ [])
seen_number (b ∷ c ∷ digits) = if b == 48 then None else number (b ∷ c ∷ digits)

-- none where the field is absent
abbrev pub seen_asked : Option (List ℕ) → Reading ℕ
seen_asked None = Ok 0
seen_asked (Some value) = ok_or (seen_number value) why.Seen

-- ---- the facts of a node

-- the facts that JSON in UTF-8 gives; its lists and objects nest at most 127 levels deep
abbrev pub facts_said : List ℕ → Option Datum
facts_said bytes = if is_utf8 bytes then option_and_then given_facts (read bytes) else None

-- an empty body gives no facts
abbrev pub facts_asked : List ℕ → Reading (Option Datum)
facts_asked [] = Ok None
facts_asked (b ∷ bytes) = ok_or (option_map Some (facts_said (b ∷ bytes))) why.Facts

-- ---- what each path takes

abbrev pub wanted_by : List ℕ → Option (List ℕ) → List ℕ → Reading Wanted
wanted_by node value body =
    and_then (seen_asked value) (λ seen. and_then (facts_asked body)
    (λ facts. Ok (record { node = node; facts = facts; seen = seen })))

abbrev pub site_asked : {S : Type 0} → (List ℕ → Option S) → List ℕ → Reading S
site_asked said_site body = ok_or (said_site body) why.Site

-- the bytes are the text of this report
abbrev pub IsSent : List ℕ → Report → Type 0
IsSent body report = IsUtf8 body × IsReportText report body

-- refused where the body is the text of no report, or of another node's
abbrev pub ReportAsked : List ℕ → List ℕ → Reading Report → Type 0
ReportAsked node body (Ok report) = IsSent body report × (report.node ≡ node)
ReportAsked node body (Err refusal) =
    (refusal ≡ why.Report)
    × (((report : Report) → IsSent body report → ⊥) ⊎ ((report : Report) × IsSent body report × (report.node ≢ node)))

module _ {S : Type 0} where
  abbrev pub compile_asked : List ℕ → HttpRequest → Reading (Asked S)
  compile_asked node r = and_then (wanted_by node r.seen r.body) (λ wanted. Ok (compile wanted))

  abbrev pub FilingAsked : List ℕ → List ℕ → Reading (Asked S) → Type 0
  FilingAsked node body result =
      (read : Reading Report) × ReportAsked node body read
      × (and_then read (λ report. Ok (plain (filed report))) ≡ result)

  abbrev pub deployment_asked : (List ℕ → Option S) → List ℕ → Reading (Asked S)
  deployment_asked said_site body = and_then (site_asked said_site body) (λ site. Ok (plain (ask.Deploy site)))

-- where `said_site` tells which site bytes say
module _ {S : Type 0} (said_site : List ℕ → Option S) where
  -- what a request asks whose path and method fit
  abbrev pub AsksAt : Endpoint → HttpRequest → Reading (Asked S) → Type 0
  AsksAt (at.Catalog node) r = λ result. compile_asked node r ≡ result
  AsksAt (at.Node node) r = λ result. Ok (plain (ask.Deactivate node)) ≡ result
  AsksAt (at.Report node) r = λ result. FilingAsked node r.body result
  AsksAt at.Site r = λ result. deployment_asked said_site r.body ≡ result

  abbrev pub AsksBy : Bool → Endpoint → HttpRequest → Reading (Asked S) → Type 0
  AsksBy true endpoint r = AsksAt endpoint r
  AsksBy false endpoint r = λ result. Err why.Method ≡ result

  abbrev pub AsksOf : Option Endpoint → HttpRequest → Reading (Asked S) → Type 0
  AsksOf None r = λ result. Err why.Path ≡ result
  AsksOf (Some endpoint) r = AsksBy (pointwise nat_eq r.method (method_of endpoint)) endpoint r

  -- What the request asks, or why it asks nothing: the path is looked at first, then the method.
  abbrev pub Asks : HttpRequest → Reading (Asked S) → Type 0
  Asks r = AsksOf (endpoint_of r.path) r
