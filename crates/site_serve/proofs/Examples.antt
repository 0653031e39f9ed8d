-- The definitions on small values.
use Rattle.std.proofs.Common.{◌≡◌, ℕ, List, [], ◌∷◌, ◌++◌, Some, None, refl}
use Rattle.std.specs.Prelude.{codes, Ok, Err, pos}
use Rattle.std.specs.Fmt.{digits}
use Rattle.std.specs.Str.{is_utf8, chars}
use Rattle.serde_json.proofs.OnLiterals.{serde_json_on_literals}
use Rattle.pp_values.specs.Datum.{hash, no_entries, entry, text, int}
use Rattle.site_core.specs.Asked.{Asked, compile}
use Rattle.site_core.specs.declared.reply.ReplyOf.TheVariants as a
use Rattle.http_wire.specs.Responses.{crlf, response_text}
use Rattle.http_wire.specs.declared.request.H.TheVariants as h
use Rattle.site_serve.specs.Endpoints.{endpoint_of}
use Rattle.site_serve.specs.Requests.{seen_number, seen_asked, facts_said, facts_asked}
use Rattle.site_serve.specs.Replies.{refusal_response, reply_response, refusal_text}
use Rattle.site_serve.specs.declared.endpoint.Endpoint.TheVariants as at
use Rattle.site_serve.specs.declared.conn_end.TheConstants.{MOST_ANSWERS}
use Rattle.site_serve.specs.declared.refusal.Refusal.TheVariants as why

-- ---- paths

catalog_path : endpoint_of (codes "/catalog/web-1.a") ≡ Some (at.Catalog (codes "web-1.a"))
catalog_path = refl

node_path : endpoint_of (codes "/node/n") ≡ Some (at.Node (codes "n"))
node_path = refl

report_path : endpoint_of (codes "/report/n") ≡ Some (at.Report (codes "n"))
report_path = refl

site_path : endpoint_of (codes "/site") ≡ Some at.Site
site_path = refl

no_node : endpoint_of (codes "/catalog/") ≡ None
no_node = refl

two_segments : endpoint_of (codes "/catalog/a/b") ≡ None
two_segments = refl

capital_letter : endpoint_of (codes "/node/N") ≡ None
capital_letter = refl

with_query : endpoint_of (codes "/node/n?x") ≡ None
with_query = refl

more_behind : endpoint_of (codes "/site/") ≡ None
more_behind = refl

-- ---- `Site-Seen`

zero_seen : seen_number (codes "0") ≡ Some 0
zero_seen = refl

most_seen : seen_number (codes "4294967295") ≡ Some 4294967295
most_seen = refl

too_many_seen : seen_number (codes "4294967296") ≡ None
too_many_seen = refl

leading_zero : seen_number (codes "03") ≡ None
leading_zero = refl

signed : seen_number (codes "+3") ≡ None
signed = refl

nothing_seen : seen_asked (Some []) ≡ Err why.Seen
nothing_seen = refl

not_told : seen_asked None ≡ Ok 0
not_told = refl

-- ---- facts

no_facts : facts_said (codes "{}") ≡ Some (hash no_entries)
unfolding is_utf8 chars serde_json_on_literals
no_facts = refl

one_fact : facts_said (codes "{\"a\":1}") ≡ Some (hash (entry (text (codes "a")) (int (pos 1)) no_entries))
unfolding is_utf8 chars serde_json_on_literals
one_fact = refl

no_object : facts_asked (codes "[]") ≡ Err why.Facts
unfolding is_utf8 chars serde_json_on_literals
no_object = refl

no_body : facts_asked [] ≡ Ok None
no_body = refl

-- ---- connections

most_answers : MOST_ANSWERS ≡ 1024
most_answers = refl

-- ---- responses

-- to a node that has seen more than there is
seen_ahead : response_text (reply_response {C = List ℕ} {F = List ℕ} (λ c. c) (λ f. f) 3 (a.SeenAhead 2))
    ≡ codes "HTTP/1.1 409 Conflict\r\nContent-Length: 16\r\n\r\nseen 3 length 2\n"
unfolding digits
seen_ahead = refl

-- a catalog, with both fields
served : response_text (reply_response {C = List ℕ} {F = List ℕ} (λ c. c) (λ f. f) 0 (a.Served 1 1 (codes "{}")))
    ≡ codes "HTTP/1.1 200 OK\r\nContent-Length: 3\r\nSite-Entry: 1\r\nSite-K: 1\r\n\r\n{}\n"
unfolding digits
served = refl

-- a fault, with the field that it has
faulty : response_text (reply_response {C = List ℕ} {F = List ℕ} (λ c. c) (λ f. f) 0 (a.Refused 2 (codes "F4")))
    ≡ codes "HTTP/1.1 422 Unprocessable Entity\r\nContent-Length: 3\r\nSite-K: 2\r\n\r\nF4\n"
unfolding digits
faulty = refl

deployed : response_text (reply_response {C = List ℕ} {F = List ℕ} (λ c. c) (λ f. f) 0 (a.Deployed 1))
    ≡ codes "HTTP/1.1 200 OK\r\nContent-Length: 8\r\nSite-Entry: 1\r\n\r\nentry 1\n"
unfolding digits
deployed = refl

full : response_text (reply_response {C = List ℕ} {F = List ℕ} (λ c. c) (λ f. f) 0 (a.HistoryFull 12))
    ≡ codes "HTTP/1.1 503 Service Unavailable\r\nContent-Length: 8\r\n\r\nfull 12\n"
unfolding digits
full = refl

no_path : response_text (refusal_response why.Path) ≡ codes "HTTP/1.1 404 Not Found\r\nContent-Length: 5\r\n\r\npath\n"
unfolding digits
no_path = refl

no_method : response_text (refusal_response why.Method)
    ≡ codes "HTTP/1.1 405 Method Not Allowed\r\nContent-Length: 7\r\n\r\nmethod\n"
unfolding digits
no_method = refl

bad_site : response_text (refusal_response why.Site) ≡ codes "HTTP/1.1 400 Bad Request\r\nContent-Length: 9\r\n\r\nbad site\n"
unfolding digits
bad_site = refl

too_large : refusal_text h.TooLarge ≡ codes "HTTP/1.1 413 Payload Too Large\r\nContent-Length: 3\r\n\r\nH3\n"
unfolding digits
too_large = refl
