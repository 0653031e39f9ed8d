-- The definitions on small values.
use Rattle.std.proofs.Common.{◌≡◌, true, false, [], ◌∷◌, ◌++◌, Some, None, refl}
use Rattle.std.specs.Prelude.{codes}
use Rattle.std.specs.Fmt.{digits}
use Rattle.httparse.specs.Grammar.{crlf, Field, RequestHead, print_request, is_token_byte, trim_ows}
use Rattle.httparse.proofs.OnLiterals.{httparse_on_literals}
use Rattle.http_wire.specs.declared.places.Place.TheVariants as place
use Rattle.http_wire.specs.Fields.{body_length, closes, seen, fields_of}
use Rattle.http_wire.specs.Places.{after}
use Rattle.http_wire.specs.Responses.{response_text}

-- ---- fields

no_body : body_length ((codes "Host", codes "s") ∷ []) ≡ Some 0
no_body = refl

zeros_first : body_length ((codes "content-LENGTH", codes "007") ∷ []) ≡ Some 7
zeros_first = refl

over_the_limit : body_length ((codes "Content-Length", codes "8388609") ∷ []) ≡ Some 8388609
over_the_limit = refl

past_32_bits : body_length ((codes "Content-Length", codes "4294967296") ∷ []) ≡ None
past_32_bits = refl

no_digits : body_length ((codes "Content-Length", []) ∷ []) ≡ None
no_digits = refl

a_sign : body_length ((codes "Content-Length", codes "+5") ∷ []) ≡ None
a_sign = refl

repeated : body_length ((codes "Content-Length", codes "5") ∷ (codes "Host", codes "s") ∷ (codes "Content-Length", codes "5") ∷ []) ≡ None
repeated = refl

encoded : body_length ((codes "Content-Length", codes "5") ∷ (codes "Transfer-Encoding", codes "chunked") ∷ []) ≡ None
encoded = refl

old_version : closes 0 [] ≡ true
old_version = refl

stays : closes 1 ((codes "Connection", codes "keep-alive, closed") ∷ []) ≡ false
unfolding trim_ows
stays = refl

asked : closes 1 ((codes "connection", codes "keep-alive") ∷ (codes "Connection", codes "a, CLOSE ,b") ∷ []) ≡ true
unfolding trim_ows
asked = refl

past_ascii : seen ((codes "site-seen", 49 ∷ 195 ∷ 164 ∷ []) ∷ (codes "Site-Seen", codes "2") ∷ []) ≡ Some (codes "1??")
past_ascii = refl

unseen : seen ((codes "Host", codes "s") ∷ []) ≡ None
unseen = refl

-- ---- places

empty_lines : after place.Blank (13 ∷ 10 ∷ 10 ∷ []) ≡ place.Blank
empty_lines = refl

in_a_target : after place.Blank (10 ∷ codes "GET /a") ≡ place.Target
unfolding is_token_byte
in_a_target = refl

within : after place.Blank (codes "GET / HTTP/1.1" ++ 13 ∷ 10 ∷ codes "Host: s" ++ 13 ∷ 10 ∷ 13 ∷ []) ≡ place.LineReturn
unfolding is_token_byte
within = refl

ended : after place.Blank (codes "GET / HTTP/1.1" ++ 10 ∷ 10 ∷ codes "more") ≡ place.Ended
unfolding is_token_byte
ended = refl

-- ---- a request

host : Field
host = record { name = codes "Host"; raw = codes " s"; end = crlf }

two_bytes : Field
two_bytes = record { name = codes "Content-Length"; raw = codes " 2"; end = crlf }

head : RequestHead
head = record {
  blank = [];
  method = codes "POST";
  target = codes "/catalog/n";
  minor = 1;
  line_end = crlf;
  fields = host ∷ two_bytes ∷ [];
  last = crlf;
}

printed : print_request head ++ codes "{}"
    ≡ codes "POST /catalog/n HTTP/1.1" ++ (13 ∷ 10 ∷ codes "Host: s" ++ (13 ∷ 10 ∷ codes "Content-Length: 2" ++ (13 ∷ 10 ∷ 13 ∷ 10 ∷ codes "{}")))
unfolding httparse_on_literals head host two_bytes
printed = refl

announced : body_length (fields_of head) ≡ Some 2
unfolding trim_ows head host two_bytes
announced = refl

-- ---- a response

entry_one : response_text (record { status = 200; entry = Some 1; k = None; body = codes "entry 1" ++ 10 ∷ [] })
    ≡ codes "HTTP/1.1 200 OK" ++ (13 ∷ 10 ∷ codes "Content-Length: 8" ++ (13 ∷ 10 ∷ codes "Site-Entry: 1" ++ (13 ∷ 10 ∷ 13 ∷ 10 ∷ codes "entry 1" ++ 10 ∷ [])))
unfolding digits
entry_one = refl

both_fields : response_text (record { status = 200; entry = Some 12; k = Some 4294967295; body = [] })
    ≡ codes "HTTP/1.1 200 OK" ++ (13 ∷ 10 ∷ codes "Content-Length: 0" ++ (13 ∷ 10 ∷ codes "Site-Entry: 12" ++ (13 ∷ 10 ∷ codes "Site-K: 4294967295" ++ 13 ∷ 10 ∷ 13 ∷ 10 ∷ [])))
unfolding digits
both_fields = refl

too_large : response_text (record { status = 413; entry = None; k = None; body = codes "H3" ++ 10 ∷ [] })
    ≡ codes "HTTP/1.1 413 Payload Too Large" ++ (13 ∷ 10 ∷ codes "Content-Length: 3" ++ (13 ∷ 10 ∷ 13 ∷ 10 ∷ codes "H3" ++ 10 ∷ []))
unfolding digits
too_large = refl
