-- The requests at the front of bytes, and why bytes have no further one.
use Rattle.std.specs.Prelude.{◌≡◌, ◌≢◌, ℕ, ◌<◌, ◌≤◌, ◌⊎◌, List, [], ◌∷◌, ◌++◌, length, take, Option, None, Some}
use Rattle.httparse.specs.Grammar.{RequestHead, IsRequestHead, print_request, HasNoRequest, NeverHasRequest}
use Rattle.httparse.specs.Grammar.{MayBecomeRequest, EndsInTarget}
use Rattle.http_wire.specs.Fields.{fields_of, body_length, closes, seen}
use Rattle.http_wire.specs.declared.request.HttpRequest.{HttpRequest}
use Rattle.http_wire.specs.declared.request.H.{H}
use Rattle.http_wire.specs.declared.request.H.TheVariants as h

-- ---- limits

-- the bytes of a head, with the empty lines before it
abbrev pub most_head : ℕ
most_head = 16384

abbrev pub most_fields : ℕ
most_fields = 64

abbrev pub most_body : ℕ
most_body = 8388608

-- ---- a request

-- these bytes, all of them, are that request
pub record IsMessage (bytes : List ℕ) (request : HttpRequest) : Type 0 where
  pub head : RequestHead
  pub valid : IsRequestHead head
  pub short : length (print_request head) ≤ most_head
  pub few : length head.fields ≤ most_fields
  pub announced : body_length (fields_of head) ≡ Some (length request.body)
  pub fits : length request.body ≤ most_body
  pub bytes_are : bytes ≡ print_request head ++ request.body
  pub method : request.method ≡ head.method
  pub path : request.path ≡ head.target
  pub seen : request.seen ≡ seen (fields_of head)
  pub close : request.close ≡ closes head.minor (fields_of head)
  pub size : request.size ≡ length bytes

-- the request stands at the front, and the rest behind it
abbrev pub HasNext : List ℕ → HttpRequest → List ℕ → Type 0
HasNext bytes request rest = (front : List ℕ) × IsMessage front request × (bytes ≡ front ++ rest)

-- no request stands at the front
abbrev pub HasNone : List ℕ → Type 0
HasNone bytes = (request : HttpRequest) (rest : List ℕ) → HasNext bytes request rest → ⊥

-- the bytes begin with these requests, one after another, and the rest stands behind them
abbrev pub Begins : List ℕ → List HttpRequest → List ℕ → Type 0
Begins bytes [] rest = bytes ≡ rest
Begins bytes (r ∷ rs) rest = (back : List ℕ) × HasNext bytes r back × Begins back rs rest

-- ---- no request

-- a head stands at the front, and within the limit
abbrev pub HasHead : List ℕ → RequestHead → List ℕ → Type 0
HasHead bytes head back =
    IsRequestHead head × (length (print_request head) ≤ most_head) × (bytes ≡ print_request head ++ back)

-- no head is whole, and some bytes can follow that make one, or the target is still being read, of which nothing is
-- decided
abbrev pub IsOpenHead : List ℕ → Type 0
IsOpenHead bytes = HasNoRequest bytes × MayBecomeRequest bytes

-- no bytes can follow that make a head
abbrev pub IsNoHead : List ℕ → Type 0
IsNoHead bytes = NeverHasRequest bytes × (EndsInTarget bytes → ⊥)

abbrev pub IsCrowded : List ℕ → Type 0
IsCrowded bytes = (head : RequestHead) × (back : List ℕ) × HasHead bytes head back × (most_fields < length head.fields)

-- the head is whole, and what its fields say of the length of the body is this
abbrev pub Announces : List ℕ → Option ℕ → List ℕ → Type 0
Announces bytes said back =
    (head : RequestHead) × HasHead bytes head back × (length head.fields ≤ most_fields)
    × (body_length (fields_of head) ≡ said)

-- the head is whole, and some bytes of its body are not there yet
abbrev pub IsOpenBody : List ℕ → Type 0
IsOpenBody bytes = (n : ℕ) × (back : List ℕ) × Announces bytes (Some n) back × (n ≤ most_body) × (length back < n)

-- no request is whole yet, and none is refused yet
abbrev pub IsOpen : List ℕ → Type 0
IsOpen bytes = ((length bytes < most_head) × IsOpenHead bytes) ⊎ IsOpenBody bytes

-- Why the bytes have no request at the front. `ended` says that no byte follows them.
abbrev pub Refuses : H → List ℕ → Type 0 → Type 0
Refuses h.BadHead bytes ended = IsNoHead (take most_head bytes) ⊎ IsCrowded bytes
Refuses h.BadLength bytes ended = (back : List ℕ) × Announces bytes None back
Refuses h.TooLarge bytes ended =
    ((most_head ≤ length bytes) × IsOpenHead (take most_head bytes))
    ⊎ ((n : ℕ) × (back : List ℕ) × Announces bytes (Some n) back × (most_body < n))
Refuses h.Truncated bytes ended = ended × (bytes ≢ []) × IsOpen bytes
