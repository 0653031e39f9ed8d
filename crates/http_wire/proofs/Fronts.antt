-- What stands at the front of bytes, and how it stays while they grow.
use Rattle.std.proofs.Common.{◌≡◌, ◌⊎◌, inl, inr, ℕ, suc, ◌+◌, ◌-◌, ◌*◌, ◌<◌, ◌≤◌, List, [], ◌∷◌, ◌++◌, length, map, take, drop, Option, Some, refl, sym, ap, ◌∙◌, subst, arith, append_assoc, append-nil, length-append}
use Rattle.std.specs.Prelude.{All, true, false, option_copied}
use Rattle.std.proofs.lemmas.List.{take-append-drop, length-take-le, take_rest, length-map}
use Rattle.std.proofs.lemmas.List.Elements.{All-head, All-tail}
use Rattle.std.specs.List.{flat_map}
use Rattle.httparse.specs.Grammar.{RequestHead, print_request, print_blank, print_end, print_field, print_section, print_version, Field, IsField, LineEnd, crlf, lf, ReadsRequest, HasNoRequest, NeverHasRequest}
use Rattle.httparse.specs.declared.borrowed.Header.{Header}
use Rattle.httparse.specs.declared.borrowed.Request.{Request}
use Rattle.httparse.specs.Borrowed.{header_parts, HoldsSomeRequest}
use Rattle.httparse.specs.Spans.{RequestExceeds, name_and_value}
use Rattle.httparse.proofs.GrammarLemmas.{request_unique, print_request-append, cons-append}
use Rattle.http_wire.specs.declared.heads.Head.{Head}
use Rattle.http_wire.specs.declared.request.HttpRequest.{HttpRequest}
use Rattle.http_wire.specs.declared.places.Place.{Place}
use Rattle.http_wire.specs.declared.places.Place.TheVariants.{Blank}
use Rattle.http_wire.specs.Places.{next, after, is_target}
use Rattle.http_wire.specs.Fields.{fields_of, body_length, closes, seen}
use Rattle.http_wire.specs.Messages.{most_head, most_body, most_fields, HasNext, HasNone, HasHead, Announces, IsOpenBody, IsOpenHead, IsNoHead, IsCrowded}
use Rattle.http_wire.specs.Reading.{IsKept, IsHeadOf, IsTaken}
use Rattle.http_wire.proofs.Watching.{in_target, target_in}

pub some_alike : (a b : ℕ) → Some a ≡ Some b → a ≡ b
some_alike a b is = cc

-- ---- growth

pub head_stays : (bytes back : List ℕ) (head : RequestHead) (more : List ℕ) → HasHead bytes head back → HasHead (bytes ++ more) head (back ++ more)
head_stays bytes back head more has =
    (has.0, has.1, ap (λ l. l ++ more) has.2 ∙ append_assoc (print_request head) back more)

pub kept_stays : (bytes more : List ℕ) {kept : Head} → IsHeadOf bytes kept → IsHeadOf (bytes ++ more) kept
kept_stays bytes more is = record {
  head = is.head;
  back = is.back ++ more;
  has = head_stays bytes is.back is.head more is.has;
  few = is.few;
  parts = is.parts;
}

pub kept_of_front : (n : ℕ) (bytes : List ℕ) {kept : Head} → IsHeadOf (take n bytes) kept → IsHeadOf bytes kept
kept_of_front n bytes {kept} is = subst (λ l. IsHeadOf l kept) (take-append-drop n bytes) (kept_stays (take n bytes) (drop n bytes) is)

pub crowded_of_front : (n : ℕ) (bytes : List ℕ) → IsCrowded (take n bytes) → IsCrowded bytes
crowded_of_front n bytes (head, back, has, many) =
    (head, back ++ drop n bytes, subst (λ l. HasHead l head (back ++ drop n bytes)) (take-append-drop n bytes) (head_stays (take n bytes) back head (drop n bytes) has), many)

-- ---- no request yet

pub message_reads : (bytes rest : List ℕ) (r : HttpRequest) (next : HasNext bytes r rest) → ReadsRequest bytes (next.1.head) (r.body ++ rest)
message_reads bytes rest r (front, is, cut) =
    (is.valid, cut ∙ ap (λ l. l ++ rest) is.bytes_are ∙ append_assoc (print_request is.head) r.body rest)

pub none_without_head : (bytes : List ℕ) → HasNoRequest bytes → HasNone bytes
none_without_head bytes none r rest next = none next.1.head (r.body ++ rest) (message_reads bytes rest r next)

-- the body is as long as the head says
body_is : (bytes back rest : List ℕ) (head : RequestHead) (r : HttpRequest) (n : ℕ) → HasHead bytes head back → body_length (fields_of head) ≡ Some n
    → HasNext bytes r rest → (length r.body ≡ n) × (r.body ++ rest ≡ back)
body_is bytes back rest head r n has says next =
    let same = request_unique bytes next.1.head head (r.body ++ rest) back (message_reads bytes rest r next) (has.0, has.2) in
    (some_alike (length r.body) n (sym next.1.announced ∙ ap (λ h. body_length (fields_of h)) same.0 ∙ says), same.1)

pub none_without_body : (bytes : List ℕ) (kept : Head) (n : ℕ) → IsHeadOf bytes kept → kept.body ≡ Some n → (more : List ℕ)
    → length (bytes ++ more) < kept.size + n → HasNone (bytes ++ more)
none_without_body bytes kept n is says more short r rest next =
    let has = head_stays bytes is.back is.head more is.has in
    let same = body_is (bytes ++ more) (is.back ++ more) rest is.head r n has (sym is.parts.body_is ∙ says) next in
    let size = is.parts.size_is in
    let all = ap length has.2 in
    let parts = length-append (print_request is.head) (is.back ++ more) in
    let cut = ap length same.1 in
    let body = length-append r.body rest in
    omega (arith, same.0, size, all, parts, cut, body, short)

pub open_body : (bytes : List ℕ) (kept : Head) (n : ℕ) → IsHeadOf bytes kept → kept.body ≡ Some n → n ≤ most_body → (more : List ℕ)
    → length (bytes ++ more) < kept.size + n → IsOpenBody (bytes ++ more)
open_body bytes kept n is says fits more short =
    let has = head_stays bytes is.back is.head more is.has in
    let size = is.parts.size_is in
    let all = ap length has.2 in
    let parts = length-append (print_request is.head) (is.back ++ more) in
    (n, is.back ++ more, (is.head, has, is.few, sym is.parts.body_is ∙ says), fits, omega (arith, size, all, parts, short))

pub announces : {bytes : List ℕ} {kept : Head} (said : Option ℕ) (is : IsHeadOf bytes kept) → kept.body ≡ said → Announces bytes said is.back
announces said is says = (is.head, is.has, is.few, sym is.parts.body_is ∙ says)

pub size_fits : {bytes : List ℕ} {kept : Head} → IsHeadOf bytes kept → kept.size ≤ most_head
size_fits is = let short = is.has.1 in let size = is.parts.size_is in omega (arith, short, size)

-- ---- a request

drop_front : (xs ys : List ℕ) (n : ℕ) → drop (length xs + n) (xs ++ ys) ≡ drop n ys
drop_front [] ys n = let same : 0 + n ≡ n = omega arith in ap (λ k. drop k ys) same
drop_front (x ∷ xs) ys n =
    let same : suc (length xs) + n ≡ suc (length xs + n) = omega arith in ap (λ k. drop k (x ∷ xs ++ ys)) same ∙ drop_front xs ys n

-- the head, a body of so many bytes, and the rest
pub request_taken : (bytes more : List ℕ) (kept : Head) (n : ℕ) (r : HttpRequest) (rest : List ℕ) → IsHeadOf bytes kept → kept.body ≡ Some n
    → n ≤ most_body → kept.size + n ≤ length (bytes ++ more) → IsTaken kept n (bytes ++ more) r rest → HasNext (bytes ++ more) r rest
request_taken bytes more kept n r rest is says fits whole taken =
    let has = head_stays bytes is.back is.head more is.has in
    let printed = print_request is.head in
    let back = is.back ++ more in
    let size : kept.size ≡ length printed = is.parts.size_is in
    let start : kept.size ≡ length printed + 0 = omega (arith, size) in
    let all = ap length has.2 in
    let parts = length-append printed back in
    let enough : n ≤ length back = omega (arith, size, all, parts, whole) in
    let body : r.body ≡ take n back =
    taken.body ∙ ap (λ l. take n (drop kept.size l)) has.2 ∙ ap (λ k. take n (drop k (printed ++ back))) start ∙ ap (take n) (drop_front printed back 0) in
    let count : length r.body ≡ n = ap length body ∙ length-take-le n back enough in
    let behind : rest ≡ drop n back =
    taken.rest_is ∙ ap (drop (kept.size + n)) has.2 ∙ ap (λ k. drop (k + n) (printed ++ back)) size ∙ drop_front printed back n in (
      printed ++ r.body,
      record {
        head = is.head;
        valid = has.0;
        short = has.1;
        few = is.few;
        announced = sym is.parts.body_is ∙ says ∙ ap Some (sym count);
        fits = omega (arith, count, fits);
        bytes_are = refl;
        method = taken.method ∙ is.parts.method_is;
        path = taken.path ∙ is.parts.path_is;
        seen = taken.seen ∙ is.parts.seen_is;
        close = taken.close ∙ is.parts.close_is;
        size = taken.size ∙ (let sum = length-append printed r.body in omega (arith, size, count, sum));
      },
      has.2 ∙ ap (λ l. printed ++ l) (sym (take-append-drop n back)) ∙ sym (append_assoc printed (take n back) (drop n back))
          ∙ ap (λ l. (printed ++ take n back) ++ l) (sym behind) ∙ ap (λ l. (printed ++ l) ++ rest) (sym body),
    )

-- ---- what the parser answers

end_long : (e : LineEnd) → 1 ≤ length (print_end e)
end_long crlf = omega arith
end_long lf = omega arith

field_size : (name raw end : List ℕ) → length (name ++ 58 ∷ raw ++ end) ≡ length name + (1 + (length raw + length end))
field_size name raw end =
    let whole : name ++ 58 ∷ raw ++ end ≡ name ++ 58 ∷ (raw ++ end) = simp (append_assoc, cons-append) in
    let size = ap length whole in
    let front = length-append name (58 ∷ (raw ++ end)) in
    let back = length-append raw end in omega (arith, size, front, back)

field_long : (f : Field) → IsField f → 3 ≤ length (print_field f)
field_long f is =
    let some = is.name.0 in
    let size = field_size f.name f.raw (print_end f.end) in
    let end = end_long f.end in omega (arith, some, size, end)

fields_long : (fields : List Field) → All IsField fields → 3 * length fields ≤ length (flat_map print_field fields)
fields_long [] all = omega arith
fields_long (f ∷ fields) all =
    let here = field_long f (All-head IsField f fields all) in
    let further = fields_long fields (All-tail IsField f fields all) in
    let sum = length-append (print_field f) (flat_map print_field fields) in
    omega (arith, here, further, sum)

-- a head within the limit has no more fields than these
pub never_wider : (buf : List ℕ) (room : ℕ) → length buf ≤ most_head → 5462 ≤ room → RequestExceeds room buf → ⊥
never_wider buf room short wide (front, rest, cut, h, reads, over) =
    let section = print_section h.fields h.last in
    let a0 = section ++ [] in
    let a1 = print_end h.line_end ++ a0 in
    let a2 = print_version h.minor ++ a1 in
    let a3 = h.target ++ 32 ∷ a2 in
    let a4 = h.method ++ 32 ∷ a3 in
    let whole : length (front ++ 10 ∷ []) ≡ length (print_blank h.blank ++ a4) = ap length (reads.1 ∙ print_request-append h []) in
    let s0 = length-append section [] in
    let s1 = length-append (print_end h.line_end) a0 in
    let s2 = length-append (print_version h.minor) a1 in
    let s3 = length-append h.target (32 ∷ a2) in
    let s4 = length-append h.method (32 ∷ a3) in
    let s5 = length-append (print_blank h.blank) a4 in
    let s6 = length-append (flat_map print_field h.fields) (print_end h.last) in
    let s7 = length-append front (10 ∷ []) in
    let s8 = length-append front rest in
    let s9 = ap length cut in
    let many = fields_long h.fields reads.0.fields in
    omega (arith, whole, s0, s1, s2, s3, s4, s5, s6, s7, s8, s9, many, short, wide, over)

pub open_in_target : (bytes : List ℕ) → NeverHasRequest bytes → is_target (after Blank bytes) ≡ true → IsOpenHead bytes
open_in_target bytes never target = (subst HasNoRequest (append-nil bytes) (never []), inr (target_in bytes target))

pub never_elsewhere : (bytes : List ℕ) → NeverHasRequest bytes → is_target (after Blank bytes) ≡ false → IsNoHead bytes ⊎ IsCrowded bytes
never_elsewhere bytes never other = inl (never, λ ends. absurd (let e = in_target bytes ends in cc))

head_short : (bytes back : List ℕ) (h : RequestHead) → bytes ≡ print_request h ++ back → length bytes ≤ most_head → length (print_request h) ≤ most_head
head_short bytes back h is short =
    let all = ap length is in let sum = length-append (print_request h) back in omega (arith, all, sum, short)

field_count : (headers : List Header) (fields : List Field) → map header_parts headers ≡ map name_and_value fields → length headers ≡ length fields
field_count headers fields same =
    sym (length-map headers header_parts) ∙ ap length same ∙ length-map fields name_and_value

pub crowded_found : (bytes : List ℕ) (r : Request) (size : ℕ) → HoldsSomeRequest bytes r size → length bytes ≤ most_head
    → most_fields < length r.headers.now → IsNoHead bytes ⊎ IsCrowded bytes
crowded_found bytes r size (h, holds) short many =
    let count = field_count r.headers.now h.fields holds.fields in
    inr (h, drop size bytes, (holds.reads.0, head_short bytes (drop size bytes) h holds.reads.1 short, holds.reads.1), omega (arith, count, many))

pub whole_found : (bytes : List ℕ) (r : Request) (size : ℕ) (method path : List ℕ) (minor : ℕ) (kept : Head) → HoldsSomeRequest bytes r size
    → length bytes ≤ most_head → length r.headers.now ≤ most_fields → option_copied r.method ≡ Some method → option_copied r.path ≡ Some path
    → r.version ≡ Some minor → IsKept method path minor (map header_parts r.headers.now) size kept → IsHeadOf bytes kept
whole_found bytes r size method path minor kept (h, holds) short few has_method has_path has_version is = record {
  head = h;
  back = drop size bytes;
  has = (holds.reads.0, head_short bytes (drop size bytes) h holds.reads.1 short, holds.reads.1);
  few = let count = field_count r.headers.now h.fields holds.fields in omega (arith, count, few);
  parts = record {
    method_is = is.method_is ∙ texts_alike method h.method (sym has_method ∙ holds.method);
    path_is = is.path_is ∙ texts_alike path h.target (sym has_path ∙ holds.path);
    seen_is = is.seen_is ∙ ap seen holds.fields;
    close_is = is.close_is ∙ ap (λ m. closes m (map header_parts r.headers.now)) (some_alike minor h.minor (sym has_version ∙ holds.version))
        ∙ ap (closes h.minor) holds.fields;
    body_is = is.body_is ∙ ap body_length holds.fields;
    size_is = is.size_is ∙ holds.len_is;
  };
}
  where
    texts_alike : (a b : List ℕ) → Some a ≡ Some b → a ≡ b
    texts_alike a b same = cc

-- ---- the place

after-append : (p : Place) (xs ys : List ℕ) → after p (xs ++ ys) ≡ after (after p xs) ys
after-append p [] ys = refl
after-append p (b ∷ xs) ys = after-append (next p b) xs ys

pub place_moves : (rest rest' last : List ℕ) (p : Place) (count : ℕ) → p ≡ after Blank rest → rest' ≡ rest ++ last → count ≡ length rest
    → after p (take (length rest' - count) (drop count rest')) ≡ after Blank rest'
place_moves rest rest' last p count is grown counted =
    let start : count ≡ length rest + 0 = omega (arith, counted) in
    ap (after p) (take_rest rest' count ∙ ap (drop count) grown ∙ ap (λ k. drop k (rest ++ last)) start ∙ drop_front rest last 0)
    ∙ ap (λ q. after q last) is ∙ sym (after-append Blank rest last) ∙ ap (after Blank) (sym grown)
