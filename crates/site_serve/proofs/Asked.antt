-- Reports that are sent; what is asked has facts where it has any.
use Rattle.std.proofs.Common.{◌≡◌, ◌⊎◌, inl, inr, ℕ, Bool, true, false, IsTrue, List, [], ◌∷◌, Option, Some, None, refl, sym, ap, ◌∙◌, subst}
use Rattle.std.specs.Prelude.{Result, Ok, Err, IfOk, if◌then◌else◌, nat_eq, option_map, option_and_then}
use Rattle.std.specs.Option.{ok_or}
use Rattle.std.specs.Str.{is_utf8, IsUtf8}
use Rattle.std.proofs.lemmas.Str.{is_utf8-from_IsUtf8, IsUtf8-from_is_utf8}
use Rattle.std.specs.Cmp.Lexicographic.{pointwise}
use Rattle.std.proofs.lemmas.Bool.Decides.{Decides-eqb}
use Rattle.std.proofs.lemmas.Slice.Eq.{slice_eq-Decides}
use Rattle.serde_json.specs.Data.{Data}
use Rattle.serde_json.specs.Read.{read}
use Rattle.pp_values.specs.Answers.{and_then}
use Rattle.pp_values.specs.Datum.{Datum}
use Rattle.pp_values.specs.Facts.{are_facts}
use Rattle.res_core.specs.Asked.{Wanted}
use Rattle.res_core.specs.AskedFacts.{has_facts}
use Rattle.agent_machine.specs.declared.report.Report.{Report}
use Rattle.json_documents.specs.LinesOfText.{IsFirstBad, ReadsDocument}
use Rattle.json_documents.specs.declared.doc_stop.DocStop.{DocStop}
use Rattle.json_documents.specs.declared.doc_stop.DocStop.TheVariants as doc
use Rattle.agent_docs.specs.ReportText.{IsReportText}
use Rattle.site_bundle.specs.GivenFacts.{given_facts}
use Rattle.site_bundle.proofs.FactSteps.{given_are_facts}
use Rattle.site_core.specs.Asked.{Asked, compile, plain, filed}
use Rattle.site_core.specs.declared.plain.Plain.TheVariants as ask
use Rattle.http_wire.specs.declared.request.HttpRequest.{HttpRequest}
use Rattle.site_serve.specs.Endpoints.{endpoint_of, method_of}
use Rattle.site_serve.specs.Requests.{Reading, seen_asked, facts_said, facts_asked, wanted_by, IsSent, ReportAsked, site_asked, FilingAsked, AsksAt, AsksBy, AsksOf, Asks}
use Rattle.site_serve.specs.Steps.{IsRefused, ReadsBy, ReadsSent, gives_facts}
use Rattle.site_serve.specs.declared.ask_stop.AskStop.{AskStop}
use Rattle.site_serve.specs.declared.ask_stop.AskStop.TheVariants as stop
use Rattle.site_serve.specs.declared.endpoint.Endpoint.{Endpoint}
use Rattle.site_serve.specs.declared.endpoint.Endpoint.TheVariants as at
use Rattle.site_serve.specs.declared.refusal.Refusal.{Refusal}
use Rattle.site_serve.specs.declared.refusal.Refusal.TheVariants as why

-- ---- reports

-- a text whose first lines are those of no report is the text of none
pub none_sent : (n : ℕ) (body text : List ℕ) → text ≡ body → IsFirstBad IsReportText n text →
    (report : Report) → IsSent body report → ⊥
none_sent n body text same bad report sent =
    bad.3 (report, text, subst (λ l. IsReportText report l) (sym same) sent.1, refl)

pub bad_sent : (s : DocStop) (n : ℕ) (body text : List ℕ) → s ≡ doc.Bad n → text ≡ body →
    ReadsDocument IsReportText text (Err s) → (report : Report) → IsSent body report → ⊥
bad_sent s n body text is same reads =
    none_sent n body text same (subst (λ x. ReadsDocument IsReportText text (Err x)) is reads)

pub none_read : (node body given : List ℕ) (o : Option Report) → given ≡ body → o ≡ None →
    ReadsSent {M = Unit {0}} given (Ok o) → ReportAsked node body (Err why.Report)
none_read node body given o same none reads = (
  refl,
  inl (subst (λ l. (report : Report) → IsSent l report → ⊥) same
      (subst (λ x. ReadsSent {M = Unit {0}} given (Ok x)) none reads)),
)

pub is_of : (node body : List ℕ) (report : Report) → IsSent body report → pointwise nat_eq report.node node ≡ true →
    ReportAsked node body (Ok report)
is_of node body report sent same = (sent, (slice_eq-Decides Decides-eqb report.node node true (sym same)).0 refl)

pub of_another : (node body : List ℕ) (report : Report) → IsSent body report →
    pointwise nat_eq report.node node ≡ false → ReportAsked node body (Err why.Report)
of_another node body report sent other = (
  refl,
  inr (
    report,
    sent,
    (λ e. absurd (cc (sym ((slice_eq-Decides Decides-eqb report.node node _ refl).1 e)
        ∙ other))),
  ),
)

pub of_none : (node body : List ℕ) → ((report : Report) → IsSent body report → ⊥) →
    ReportAsked node body (Err why.Report)
of_none node body none = (refl, inl none)

module _ {S : Type 0} where
  pub filing_read : (node body : List ℕ) (report : Report) → ReportAsked node body (Ok report) →
      FilingAsked {S = S} node body (Ok (plain (filed report)))
  filing_read node body report is = (Ok report, is, refl)

pub filing_stopped : (S : Type 0) (node body : List ℕ) (s : AskStop) → IsRefused s (ReportAsked node body) →
    IsRefused s (FilingAsked {S = S} node body)
filing_stopped S node body (stop.Refused refusal) is = (Err refusal, is, refl)
filing_stopped S node body stop.Memory is = tt

-- ---- paths and methods

module _ {S A : Type 0} (said_site : List ℕ → Option S) (shown : A → Asked S) (result : Result A AskStop)
    (r : HttpRequest) where
  pub asks_as : (o : Option Endpoint) (path : List ℕ) → path ≡ r.path → o ≡ endpoint_of path →
      ReadsBy shown result (AsksOf said_site o r) → ReadsBy shown result (Asks said_site r)
  asks_as o path same is reads =
      subst (λ x. ReadsBy shown result (AsksOf said_site x r)) (is ∙ ap endpoint_of same) reads

  pub fits_method : (c : Bool) (endpoint : Endpoint) → c ≡ true → ReadsBy shown result (AsksAt said_site endpoint r) →
      ReadsBy shown result (AsksBy said_site c endpoint r)
  fits_method true endpoint is reads = reads
  fits_method false endpoint is reads = absurd (cc is)

module _ {S : Type 0} (said_site : List ℕ → Option S) where
  pub other_method : (c : Bool) (endpoint : Endpoint) (r : HttpRequest) → c ≡ false →
      AsksBy said_site c endpoint r (Err why.Method)
  other_method true endpoint r is = absurd (cc is)
  other_method false endpoint r is = refl

-- ---- facts

pub said_given : {V M : Type 0} (shown : V → Datum) (body : List ℕ) (j : Data) (result : Result (Option V) M) →
    IsUtf8 body → read body ≡ Some j → IfOk result (λ o. option_map shown o ≡ given_facts j) →
    IfOk result (λ o. option_map shown o ≡ facts_said body)
said_given shown body j result text is given =
    subst (λ x. IfOk result (λ o. option_map shown o ≡ x)) (sym
    (ap (λ b. if b then option_and_then given_facts (read body) else None) (is_utf8-from_IsUtf8 body text)
    ∙ ap (option_and_then given_facts) is)) given

pub not_said : (body : List ℕ) → (IsUtf8 body → read body ≡ None) → facts_said body ≡ None
not_said body is =
    elim (is_utf8 body) as (λ b. is_utf8 body ≡ b →
    (if b then option_and_then given_facts (read body) else None) ≡ None) [
      | true ↦ λ e. ap (option_and_then given_facts) (is (IsUtf8-from_is_utf8 body e))
      | false ↦ λ e. refl
    ] refl

-- a step answers, where the one before it did
stepped : {A B : Type 0} (r : Reading A) (next : A → Reading B) (b : B) → and_then r next ≡ Ok b →
    (a : A) × (r ≡ Ok a) × (next a ≡ Ok b)
stepped (Ok a) next b is = (a, refl, is)
stepped (Err refusal) next b is = absurd (cc is)

of_data : (o : Option Data) (d : Datum) → option_and_then given_facts o ≡ Some d → IsTrue (are_facts d)
of_data None d is = absurd (cc is)
of_data (Some j) d is = given_are_facts j d is

of_bytes : (c : Bool) (bytes : List ℕ) (d : Datum) →
    (if c then option_and_then given_facts (read bytes) else None) ≡ Some d → IsTrue (are_facts d)
of_bytes true bytes d is = of_data (read bytes) d is
of_bytes false bytes d is = absurd (cc is)

of_said : (o : Option Datum) (facts : Option Datum) → ok_or (option_map Some o) why.Facts ≡ Ok facts →
    ((d : Datum) → o ≡ Some d → IsTrue (are_facts d)) → IsTrue (has_facts facts)
of_said None facts is each = absurd (cc is)
of_said (Some d) facts is each =
    let e : Some d ≡ facts = cc (is) in subst (λ f. IsTrue (has_facts f)) e (each d refl)

asked_facts : (body : List ℕ) (facts : Option Datum) → facts_asked body ≡ Ok facts → IsTrue (has_facts facts)
asked_facts [] facts is = let e : None ≡ facts = cc (is) in subst (λ f. IsTrue (has_facts f)) e refl
asked_facts (b ∷ bytes) facts is =
    of_said (facts_said (b ∷ bytes)) facts is (of_bytes (is_utf8 (b ∷ bytes)) (b ∷ bytes))

wanted_facts : (node : List ℕ) (value : Option (List ℕ)) (body : List ℕ) (w : Wanted) →
    wanted_by node value body ≡ Ok w → IsTrue (has_facts w.facts)
wanted_facts node value body w is =
    let seen = stepped (seen_asked value) _ w is in
    let facts = stepped (facts_asked body) _ w seen.2 in
    let e : record { node = node; facts = facts.0; seen = seen.0 } ≡ w = cc (facts.2) in
    subst (λ (v : Wanted). IsTrue (has_facts v.facts)) e (asked_facts body facts.0 facts.1)

module _ {S : Type 0} (said_site : List ℕ → Option S) where
  at_facts : (endpoint : Endpoint) (r : HttpRequest) (a : Asked S) → AsksAt said_site endpoint r (Ok a) →
      IsTrue (gives_facts a)
  at_facts (at.Catalog node) r a is =
      let wanted = stepped (wanted_by node r.seen r.body) _ a is in
      let e : compile wanted.0 ≡ a = cc (wanted.2) in
      subst (λ x. IsTrue (gives_facts x)) e (wanted_facts node r.seen r.body wanted.0 wanted.1)
  at_facts (at.Node node) r a is =
      let e : plain (ask.Deactivate node) ≡ a = cc (is) in subst (λ x. IsTrue (gives_facts x)) e refl
  at_facts (at.Report node) r a (read, meant, is) =
      let report = stepped read _ a is in
      let e : plain (filed report.0) ≡ a = cc (report.2) in subst (λ x. IsTrue (gives_facts x)) e refl
  at_facts at.Site r a is =
      let site = stepped (site_asked said_site r.body) _ a is in
      let e : plain (ask.Deploy site.0) ≡ a = cc (site.2) in subst (λ x. IsTrue (gives_facts x)) e refl

  by_facts : (c : Bool) (endpoint : Endpoint) (r : HttpRequest) (a : Asked S) →
      AsksBy said_site c endpoint r (Ok a) → IsTrue (gives_facts a)
  by_facts true endpoint r a is = at_facts endpoint r a is
  by_facts false endpoint r a is = absurd (cc is)

  of_facts : (o : Option Endpoint) (r : HttpRequest) (a : Asked S) → AsksOf said_site o r (Ok a) →
      IsTrue (gives_facts a)
  of_facts None r a is = absurd (cc is)
  of_facts (Some endpoint) r a is = by_facts (pointwise nat_eq r.method (method_of endpoint)) endpoint r a is

  pub gives : (r : HttpRequest) (a : Asked S) → Asks said_site r (Ok a) → IsTrue (gives_facts a)
  gives r a is = of_facts (endpoint_of r.path) r a is
